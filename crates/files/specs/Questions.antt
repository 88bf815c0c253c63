-- What is done to files if a question is answered by yes.
use Rattle.std.specs.Prelude.{◌≡◌, ℕ, Bool, true, false, if◌then◌else◌, List, Option, Some, None, slice_get}
use Rattle.std.specs.Prelude.{option_map, string_bytes}
use Rattle.std.specs.Option.{option_and_then}
use Rattle.text_field.specs.Field.{field_text}
use Rattle.ratatui_files.specs.Paths.{is_name, path_in}
use Rattle.ratatui_files.specs.declared.command.Command.{Command}
use Rattle.ratatui_files.specs.declared.command.Command.TheVariants.{Rename, Copy, Remove, RemoveFolder}
use Rattle.ratatui_files.specs.declared.command.Command.TheVariants.{MakeFile, MakeFolder}
use Rattle.files.specs.declared.list.Row.{Row}
use Rattle.files.specs.declared.browser.Browser.{Browser}
use Rattle.files.specs.declared.browser.Mode.{Mode}
use Rattle.files.specs.declared.browser.Mode.TheVariants.{Trashing, Removing, Renaming, Making, Pasting, Undoing}
use Rattle.files.specs.declared.notes.Noted.{Noted}
use Rattle.files.specs.declared.undo.Moved.{Moved}
use Rattle.files.specs.declared.trash.Discard.{Discard}
use Rattle.files.specs.Texts.{selected_text, folder_typed}
use Rattle.files.specs.Trash.{discard_in, IsStep}

-- the path of a name in the folder that is shown, if it can be one
abbrev pub named_path : Browser → List ℕ → Option (List ℕ)
named_path b name = if is_name name then Some (path_in b.folder name) else None

-- the removal of what is at a path: a folder, or something else
abbrev pub removal_by : Bool → List ℕ → Command
removal_by true path = Remove path
removal_by false path = RemoveFolder path

abbrev pub removal : Row → List ℕ → Command
removal row path = removal_by row.is_leaf path

abbrev pub removal_in : Browser → Row → Option Command
removal_in b row = option_map (removal row) (named_path b (string_bytes row.name))

-- the copying or moving of what was noted
abbrev pub paste_by : Bool → List ℕ → List ℕ → Command
paste_by true from to = Rename from to
paste_by false from to = Copy from to

abbrev pub paste_of : Browser → Noted → Option Command
paste_of b noted = option_map (paste_by noted.is_moved noted.path) (named_path b (field_text b.typed))

-- the making of a file, or of a folder if what is typed ends in a slash
abbrev pub make_by : Browser → List ℕ → Option (List ℕ) → Option Command
make_by b text (Some name) = option_map MakeFolder (named_path b name)
make_by b text None = option_map MakeFile (named_path b text)

abbrev pub make_of : Browser → List ℕ → Option Command
make_of b text = make_by b text (folder_typed text)

-- the way back of what was renamed or moved
abbrev pub way_back : Moved → Command
way_back moved = Rename moved.to moved.from

-- the change that a question is about
abbrev pub change_in : Mode → Browser → Option Command
change_in Removing b = option_and_then (removal_in b) (slice_get b.list b.selected)
change_in Renaming b =
    option_and_then (λ from. option_map (Rename from) (named_path b (field_text b.typed)))
    (named_path b (selected_text b))
change_in Making b = make_of b (field_text b.typed)
change_in Pasting b = option_and_then (paste_of b) b.noted
change_in Undoing b = option_map way_back b.last_move
change_in _ b = None

-- a browser asks whether this is to be put into the trash
pub record AsksToDiscard (b : Browser) (d : Discard) : Type 0 where
  pub mode : b.mode ≡ Trashing
  pub is : discard_in b ≡ Some d

-- a question is about a command: it is the change, or a step by which the entry comes into the trash
abbrev pub IsNamedIn : Mode → Browser → Command → Type 0
IsNamedIn Trashing b command = (d : Discard) × (discard_in b ≡ Some d) × IsStep d command
IsNamedIn mode b command = change_in mode b ≡ Some command
