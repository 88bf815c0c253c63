-- What private functions promise one another.
use Rattle.std.specs.Prelude.{List, [], ◌∷◌, ℕ, Option, Some, None}
use Rattle.ratatui_files.specs.declared.node.Entry.{Entry}
use Rattle.ratatui_files.specs.Trees.{with_path}
use Rattle.ratatui_files.specs.declared.node.Node.{Node}
use Rattle.ratatui_files.specs.declared.node.Node.TheVariants as node
use Rattle.ratatui_files.specs.declared.tree.Found.{Found}
use Rattle.ratatui_files.specs.declared.tree.Found.TheVariants.{Nothing, Folder, File}

-- what was found, as what stands there
abbrev pub found_node : Found → Option Node
found_node Nothing = None
found_node Folder = Some node.Folder
found_node (File bytes) = Some (node.File bytes.now)

-- things at these paths, in order
abbrev pub with_paths : List Entry → List (List ℕ) → List Entry
with_paths [] paths = []
with_paths (e ∷ t) [] = e ∷ t
with_paths (e ∷ t) (path ∷ paths) = with_path e path ∷ with_paths t paths
