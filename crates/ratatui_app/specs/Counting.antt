-- A number that keys change, and how it is painted.
use Rattle.std.specs.Prelude.{ℕ, ◌+◌, ◌-◌, ◌==◌, min, true, if◌then◌else◌}
use Rattle.std.specs.Fmt.{decimal}
use Rattle.std.specs.Str.{byte}
use Rattle.ratatui_core.specs.{Layout.Rect, Buffer.BufferData}
use Rattle.ratatui_events.specs.declared.event.Event.{Event}
use Rattle.ratatui_events.specs.declared.event.Event.TheVariants.{Key}
use Rattle.ratatui_events.specs.declared.key.KeyCode.{KeyCode}
use Rattle.ratatui_events.specs.declared.key.KeyCode.TheVariants.{Char}
use Rattle.ratatui_acts.specs.declared.message.Message.{Message}
use Rattle.ratatui_acts.specs.declared.message.Message.TheVariants as message
use Rattle.ratatui_app.specs.declared.counter.Counter.{Counter}
use Rattle.ratatui_app.specs.Lines.{PaintsFirstLine}

-- + and - change the number, and q ends
abbrev pub counter_by_character : ℕ → Counter → Counter
counter_by_character code c =
    if code == byte "+" then record c { count = min (c.count + 1) 255 }
    else (if code == byte "-" then record c { count = c.count - 1 }
    else (if code == byte "q" then record c { is_over = true } else c))

abbrev pub counter_by_code : KeyCode → Counter → Counter
counter_by_code (Char code) c = counter_by_character code c
counter_by_code _ c = c

abbrev pub counter_by_event : Event → Counter → Counter
counter_by_event (Key key) c = counter_by_code key.code c
counter_by_event _ c = c

abbrev pub counter_after : {R : Type 0} → Counter → Message R → Counter
counter_after c (message.Event event) = counter_by_event event c
counter_after c (message.Tick passed) = c
counter_after c (message.Answer answer) = c

-- the number is painted
abbrev pub PaintsCounter : Counter → Rect → BufferData → BufferData → Type 0
PaintsCounter c = PaintsFirstLine (decimal c.count)
