-- The table of the list of keys: which key each word of it names, and what that key asks for.
use Rattle.std.specs.Prelude.{◌≡◌, ℕ, Bool, true, false, ◌==◌, List, [], ◌∷◌, Some, codes, slice_get, ⊤}
use Rattle.std.specs.{Str.byte, List.slice_split}
use Rattle.ratatui_events.specs.declared.event.Event.TheVariants.{Key}
use Rattle.ratatui_events.specs.declared.key.KeyEvent.{KeyEvent}
use Rattle.ratatui_events.specs.declared.key.KeyCode.{KeyCode}
use Rattle.ratatui_events.specs.declared.key.KeyCode.TheVariants as key
use Rattle.pager.specs.declared.command.Command.{Command}
use Rattle.pager.specs.declared.command.Command.TheVariants as command
use Rattle.pager.specs.Keys.{has_control_key, is_press, event_command}
use Rattle.pager.specs.Pages.{help_text}

-- a word of a row of the list, the key that it names, with Control or not, and what that asks for
pub record HelpEntry : Type 0 where
  pub row : ℕ
  pub word : ℕ
  pub name : List ℕ
  pub held : Bool
  pub code : KeyCode
  pub command : Command

abbrev pub names_key : ℕ → ℕ → List ℕ → KeyCode → Command → HelpEntry
names_key row word name code command =
    record { row = row; word = word; name = name; held = false; code = code; command = command }

abbrev pub names_letter : ℕ → ℕ → ℕ → Command → HelpEntry
names_letter row word letter command = names_key row word (letter ∷ []) (key.Char letter) command

-- words are parted by one blank each, so that there is an empty word between two blanks
abbrev pub help_table : List HelpEntry
help_table =
    names_letter 0 0 (byte "j") command.Down
    ∷ names_letter 0 1 (byte "k") command.Up
    ∷ names_key 0 3 (codes "Down") key.Down command.Down
    ∷ names_key 0 4 (codes "Up") key.Up command.Up
    ∷ names_key 0 6 (codes "Enter") key.Enter command.Down
    ∷ names_key 1 0 (codes "Space") (key.Char (byte " ")) command.PageDown
    ∷ names_letter 1 1 (byte "b") command.PageUp
    ∷ names_letter 1 3 (byte "f") command.PageDown
    ∷ names_key 1 6 (codes "PgDn") key.PageDown command.PageDown
    ∷ names_key 1 7 (codes "PgUp") key.PageUp command.PageUp
    ∷ names_letter 2 0 (byte "d") command.HalfDown
    ∷ names_letter 2 1 (byte "u") command.HalfUp
    ∷ names_letter 3 0 (byte "g") command.ToStart
    ∷ names_letter 3 1 (byte "G") command.ToEnd
    ∷ names_key 3 3 (codes "Home") key.Home command.ToStart
    ∷ names_key 3 4 (codes "End") key.End command.ToEnd
    ∷ names_letter 4 0 (byte "%") command.ToPart
    ∷ names_letter 4 1 (byte "p") command.ToPart
    ∷ names_key 5 0 (codes "Left") key.Left command.ToLeft
    ∷ names_key 5 1 (codes "Right") key.Right command.ToRight
    ∷ names_letter 6 0 (byte "/") (command.Ask false)
    ∷ names_letter 6 1 (byte "?") (command.Ask true)
    ∷ names_letter 7 0 (byte "n") command.Next
    ∷ names_letter 7 1 (byte "N") command.Previous
    ∷ names_letter 8 0 (byte "&") command.Filter
    ∷ names_letter 9 0 (byte "m") command.Mark
    ∷ names_letter 9 1 (byte "'") command.ToMark
    ∷ names_letter 10 0 (byte "=") command.Details
    ∷ names_letter 11 0 (byte "l") command.Numbers
    ∷ names_letter 11 1 (byte "w") command.Wrap
    ∷ names_key 12 0 (codes ":n") (key.Char (byte ":")) command.Turn
    ∷ names_key 12 1 (codes ":p") (key.Char (byte ":")) command.Turn
    ∷ names_letter 13 0 (byte "F") command.Follow
    ∷ names_letter 14 0 (byte "h") command.Help
    ∷ names_letter 14 2 (byte "q") command.Quit
    ∷ record {
      row = 14;
      word = 4;
      name = codes "Ctrl+C";
      held = true;
      code = key.Char (byte "c");
      command = command.Quit;
    }
    ∷ []

-- the word stands there, and the key, pressed or held, asks for that
pub record IsHelped (e : HelpEntry) : Type 0 where
  pub stands : slice_get (slice_split (λ b. b == byte " ") (help_text e.row)) e.word ≡ Some e.name
  pub asks : (k : KeyEvent) → k.code ≡ e.code → has_control_key k ≡ e.held → is_press (Key k) ≡ true
      → event_command (Key k) ≡ e.command

abbrev pub AreHelped : List HelpEntry → Type 0
AreHelped [] = ⊤
AreHelped (e ∷ es) = IsHelped e × AreHelped es
