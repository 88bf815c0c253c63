-- What commands keep.
use Rattle.std.specs.Prelude.{◌≡◌, ◌≢◌, ◌||◌, ℕ, List, Bool, false}
use Rattle.std.specs.Str.{bytes_eq}
use Rattle.ratatui_files.specs.declared.command.Command.{Command}
use Rattle.ratatui_files.specs.declared.command.Command.TheVariants as command
use Rattle.ratatui_files.specs.Paths.{is_inside}

-- a path is this one, or inside it
abbrev pub is_within : List ℕ → List ℕ → Bool
is_within from path = bytes_eq path from || is_inside from path

-- a command doesn't name what is at a path: it is about something else, and moves nothing from there or to there
abbrev pub NamesOther : List ℕ → Command → Type 0
NamesOther path (command.List folder) = Unit {0}
NamesOther path (command.Read other start most) = Unit {0}
NamesOther path (command.Write other bytes) = path ≢ other
NamesOther path (command.Rename from to) = (is_within from path ≡ false) × (is_within to path ≡ false)
NamesOther path (command.Copy from to) = path ≢ to
NamesOther path (command.Remove other) = path ≢ other
NamesOther path (command.RemoveFolder other) = path ≢ other
NamesOther path (command.MakeFolder other) = path ≢ other
NamesOther path (command.MakeFile other) = path ≢ other
NamesOther path command.Now = Unit {0}
