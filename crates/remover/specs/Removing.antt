-- Names of files, of which the one that is selected can be removed, after a question.
use Rattle.std.specs.Prelude.{ℕ, ◌+◌, ◌-◌, ◌==◌, ◌++◌, min, nat_lt, Bool, true, false, if◌then◌else◌}
use Rattle.std.specs.Prelude.{List, [], length, remove, slice_get, codes, Option, None, unwrap_or}
use Rattle.std.specs.Str.{byte}
use Rattle.ratatui_events.specs.declared.event.Event.{Event}
use Rattle.ratatui_events.specs.declared.event.Event.TheVariants.{Key}
use Rattle.ratatui_events.specs.declared.key.KeyCode.{KeyCode}
use Rattle.ratatui_events.specs.declared.key.KeyCode.TheVariants.{Char}
use Rattle.ratatui_acts.specs.declared.message.Message.{Message}
use Rattle.ratatui_acts.specs.declared.message.Message.TheVariants as message
use Rattle.remover.specs.declared.remover.Phase.{Phase}
use Rattle.remover.specs.declared.remover.Phase.TheVariants.{Looking, Asking, Removing, Over}
use Rattle.remover.specs.declared.remover.Remover.{Remover}

-- the name that is selected
abbrev pub selected_name : Remover → Option (List ℕ)
selected_name s = slice_get s.names s.selected

-- j and k select the next name and the one before, d asks whether the name is to be removed, and q ends;
-- asked so, y removes, and each other character takes the question back
abbrev pub remover_by_character : ℕ → Phase → Remover → Remover
remover_by_character code Looking s =
    if code == byte "j" then record s { selected = min (s.selected + 1) (length s.names - 1) }
    else (if code == byte "k" then record s { selected = s.selected - 1 }
    else (if code == byte "d" then record s { phase = Asking }
    else (if code == byte "q" then record s { phase = Over } else s)))
remover_by_character code Asking s = if code == byte "y" then record s { phase = Removing } else record s { phase = Looking }
remover_by_character code Removing s = record s { phase = Looking }
remover_by_character code Over s = s

abbrev pub remover_by_code : KeyCode → Remover → Remover
remover_by_code (Char code) s = remover_by_character code s.phase s
remover_by_code _ s = s

abbrev pub remover_by_event : Event → Remover → Remover
remover_by_event (Key key) s = remover_by_code key.code s
remover_by_event _ s = s

-- the name is gone once it was removed
abbrev pub without_name : Remover → Remover
without_name s =
    if nat_lt s.selected (length s.names) then record s {
      names = remove s.names s.selected;
      selected = min s.selected (length s.names - 2);
      phase = Looking;
    } else record s { phase = Looking }

abbrev pub after_message : Remover → Message Bool → Remover
after_message s (message.Event event) = remover_by_event event s
after_message s (message.Tick passed) = s
after_message s (message.Answer true) = without_name s
after_message s (message.Answer false) = record s { phase = Looking }

-- what is asked for: that the selected name be removed
abbrev pub asked_in : Phase → Remover → Option (List ℕ)
asked_in Removing s = selected_name s
asked_in _ s = None

abbrev pub asked_by : Remover → Option (List ℕ)
asked_by s = asked_in s.phase s

abbrev pub ends_in : Phase → Bool
ends_in Over = true
ends_in _ = false

-- the question, and what is shown: the selected name, or the question that names it
abbrev pub question : List ℕ → List ℕ
question name = codes "remove " ++ name ++ codes "? y/n"

abbrev pub shown_in : Phase → List ℕ → List ℕ
shown_in Looking name = name
shown_in Asking name = question name
shown_in Removing name = question name
shown_in Over name = []

abbrev pub line_shown : Remover → List ℕ
line_shown s = shown_in s.phase (unwrap_or (selected_name s) [])
