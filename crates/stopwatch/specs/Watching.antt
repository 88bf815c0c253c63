-- What is told to a stopwatch, and what it shows.
use Rattle.std.specs.Prelude.{ℕ, ◌+◌, ◌-◌, ◌/◌, ◌^◌, ◌==◌, min, not, true, if◌then◌else◌, List}
use Rattle.std.specs.Fmt.{decimal}
use Rattle.std.specs.Duration.{as_nanos}
use Rattle.std.specs.Str.{byte}
use Rattle.ratatui_events.specs.declared.event.Event.{Event}
use Rattle.ratatui_events.specs.declared.event.Event.TheVariants.{Key}
use Rattle.ratatui_events.specs.declared.key.KeyCode.{KeyCode}
use Rattle.ratatui_events.specs.declared.key.KeyCode.TheVariants.{Char}
use Rattle.ratatui_acts.specs.declared.message.Message.{Message}
use Rattle.ratatui_acts.specs.declared.message.Message.TheVariants as message
use Rattle.stopwatch.specs.declared.watch.Stopwatch.{Stopwatch}

-- the blank stops it and lets it go on, r begins anew, and q ends
abbrev pub watch_by_character : ℕ → Stopwatch → Stopwatch
watch_by_character code w =
    if code == byte " " then record w { is_running = not w.is_running }
    else (if code == byte "r" then record w { nanos = 0 }
    else (if code == byte "q" then record w { is_over = true } else w))

abbrev pub watch_by_code : KeyCode → Stopwatch → Stopwatch
watch_by_code (Char code) w = watch_by_character code w
watch_by_code _ w = w

abbrev pub watch_by_event : Event → Stopwatch → Stopwatch
watch_by_event (Key key) w = watch_by_code key.code w
watch_by_event _ w = w

-- a tick's time is added as long as it runs
abbrev pub watch_after : {R : Type 0} → Stopwatch → Message R → Stopwatch
watch_after w (message.Event event) = watch_by_event event w
watch_after w (message.Tick passed) =
    if w.is_running then record w { nanos = min (w.nanos + as_nanos passed) (2 ^ 128 - 1) } else w
watch_after w (message.Answer answer) = w

-- what is shown: how many whole seconds have gone
abbrev pub seconds : Stopwatch → List ℕ
seconds w = decimal (w.nanos / 1_000_000_000)
