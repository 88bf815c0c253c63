-- What commands make of a tree of files, and what they are answered.
use Rattle.std.specs.Prelude.{ℕ, Bool, true, false, if◌then◌else◌}
use Rattle.std.specs.Prelude.{List, [], ◌∷◌, take, drop, Option, Some, None}
use Rattle.std.specs.Option.{option_map_or}
use Rattle.std.specs.Str.{bytes_eq}
use Rattle.ratatui_files.specs.declared.node.Entry.{Entry}
use Rattle.ratatui_files.specs.declared.node.Node.{Node}
use Rattle.ratatui_files.specs.declared.node.Node.TheVariants.{Folder, File}
use Rattle.ratatui_files.specs.declared.answer.Answer.{Answer}
use Rattle.ratatui_files.specs.declared.answer.Answer.TheVariants as answer
use Rattle.ratatui_files.specs.declared.answer.Failure.{Failure}
use Rattle.ratatui_files.specs.declared.answer.Failure.TheVariants.{NotFound, NotAllowed, Exists, NotEmpty}
use Rattle.ratatui_files.specs.declared.answer.Failure.TheVariants.{NotAFolder}
use Rattle.ratatui_files.specs.declared.answer.Failure.TheVariants.{IsAFolder, IntoItself}
use Rattle.ratatui_files.specs.declared.command.Command.{Command}
use Rattle.ratatui_files.specs.declared.command.Command.TheVariants as command
use Rattle.ratatui_files.specs.Paths.{is_inside}
use Rattle.ratatui_files.specs.Trees.{Tree, node_at, bytes_at, entries_in, has_folder, is_in_file, is_bare}
use Rattle.ratatui_files.specs.Trees.{without}
use Rattle.ratatui_files.specs.Trees.{with_node, renamed}

-- ---- why a command is refused

-- why nothing is at a path
abbrev pub lack : List ℕ → List Entry → Failure
lack path t = if is_in_file path t then NotAFolder else NotFound

-- the first of two reasons, if there is one
abbrev pub or_else : Option Failure → Option Failure → Option Failure
or_else (Some failure) other = Some failure
or_else None other = other

-- what is wanted at a path, where nothing is for some reason: anything; a file; a folder; nothing yet, but a folder
-- for it; a file, or a folder for one
abbrev pub wants_any : Failure → Option Node → Option Failure
wants_any lacking None = Some lacking
wants_any lacking (Some node) = None

abbrev pub wants_file : Failure → Option Node → Option Failure
wants_file lacking None = Some lacking
wants_file lacking (Some Folder) = Some IsAFolder
wants_file lacking (Some (File bytes)) = None

abbrev pub wants_folder : Failure → Option Node → Option Failure
wants_folder lacking None = Some lacking
wants_folder lacking (Some Folder) = None
wants_folder lacking (Some (File bytes)) = Some NotAFolder

abbrev pub wants_nothing : Option Failure → Option Node → Option Failure
wants_nothing lacking None = lacking
wants_nothing lacking (Some node) = Some Exists

abbrev pub wants_room : Option Failure → Option Node → Option Failure
wants_room lacking None = lacking
wants_room lacking (Some Folder) = Some IsAFolder
wants_room lacking (Some (File bytes)) = None

-- why nothing can be made at a path, though nothing is there
abbrev pub lacks_folder : List ℕ → List Entry → Option Failure
lacks_folder path t = if has_folder path t then None else Some (lack path t)

abbrev pub refuses_any : List ℕ → List Entry → Option Failure
refuses_any path t = wants_any (lack path t) (node_at path t)

abbrev pub refuses_file : List ℕ → List Entry → Option Failure
refuses_file path t = wants_file (lack path t) (node_at path t)

abbrev pub refuses_folder : List ℕ → List Entry → Option Failure
refuses_folder path t = wants_folder (lack path t) (node_at path t)

abbrev pub refuses_new : List ℕ → List Entry → Option Failure
refuses_new path t = wants_nothing (lacks_folder path t) (node_at path t)

abbrev pub refuses_write : List ℕ → List Entry → Option Failure
refuses_write path t = wants_room (lacks_folder path t) (node_at path t)

-- a thing isn't moved into itself
abbrev pub refuses_rename : List ℕ → List ℕ → List Entry → Option Failure
refuses_rename from to t =
    or_else (refuses_any from t) (if is_inside from to then Some IntoItself else refuses_new to t)

-- an empty folder, and not the one that all is in
abbrev pub refuses_remove_folder : List ℕ → List Entry → Option Failure
refuses_remove_folder path t =
    if bytes_eq path [] then Some NotAllowed
    else or_else (refuses_folder path t) (if is_bare path t then None else Some NotEmpty)

-- why a command is refused, if it is
abbrev pub refusal : Command → List Entry → Option Failure
refusal (command.List folder) t = refuses_folder folder t
refusal (command.Read path start most) t = refuses_file path t
refusal (command.Write path bytes) t = refuses_write path t
refusal (command.Rename from to) t = refuses_rename from to t
refusal (command.Copy from to) t = or_else (refuses_file from t) (refuses_new to t)
refusal (command.Remove path) t = refuses_file path t
refusal (command.RemoveFolder path) t = refuses_remove_folder path t
refusal (command.MakeFolder path) t = refuses_new path t
refusal (command.MakeFile path) t = refuses_new path t
refusal command.Now t = None

-- ---- what a command that isn't refused does

-- what stands in the tree afterwards
abbrev pub done : Command → Tree → List Entry
done (command.List folder) t = t.entries
done (command.Read path start most) t = t.entries
done (command.Write path bytes) t = with_node path (File bytes) t.time t.entries
done (command.Rename from to) t = renamed from to t.entries
done (command.Copy from to) t = with_node to (File (bytes_at from t.entries)) t.time t.entries
done (command.Remove path) t = without path t.entries
done (command.RemoveFolder path) t = without path t.entries
done (command.MakeFolder path) t = with_node path Folder t.time t.entries
done (command.MakeFile path) t = with_node path (File []) t.time t.entries
done command.Now t = t.entries

-- what it is answered
abbrev pub done_answer : Command → Tree → Answer
done_answer (command.List folder) t = answer.Listed (entries_in folder t.entries) 0
done_answer (command.Read path start most) t = answer.Read (take most (drop start (bytes_at path t.entries)))
done_answer (command.Write path bytes) t = answer.Done
done_answer (command.Rename from to) t = answer.Done
done_answer (command.Copy from to) t = answer.Done
done_answer (command.Remove path) t = answer.Done
done_answer (command.RemoveFolder path) t = answer.Done
done_answer (command.MakeFolder path) t = answer.Done
done_answer (command.MakeFile path) t = answer.Done
done_answer command.Now t = answer.Time t.time

-- ---- what a command does, refused or not

abbrev pub answer_to : Command → Tree → Answer
answer_to c t = option_map_or answer.Failed (refusal c t.entries) (done_answer c t)

abbrev pub tree_after : Command → Tree → Tree
tree_after c t = option_map_or (λ _. t) (refusal c t.entries) (record { entries = done c t; time = t.time })
