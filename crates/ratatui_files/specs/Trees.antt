-- Trees of files: what stands at which path.
use Rattle.std.specs.Prelude.{ℕ, Bool, true, false, not, ◌&&◌, ◌||◌, if◌then◌else◌, find, map, filter}
use Rattle.std.specs.Prelude.{List, [], ◌∷◌, ◌++◌, length, take, drop, Option, Some, None, option_map}
use Rattle.std.specs.Prelude.{is_some}
use Rattle.std.specs.List.{list_any, filter_map}
use Rattle.std.specs.Option.{option_map_or}
use Rattle.std.specs.Str.{bytes_eq}
use Rattle.std.specs.declared.time.Duration.{Duration}
use Rattle.ratatui_files.specs.declared.node.Entry.{Entry}
use Rattle.ratatui_files.specs.declared.node.Node.{Node}
use Rattle.ratatui_files.specs.declared.node.Node.TheVariants.{Folder, File}
use Rattle.ratatui_files.specs.declared.answer.Info.{Info}
use Rattle.ratatui_files.specs.declared.answer.Kind.{Kind}
use Rattle.ratatui_files.specs.declared.answer.Kind.TheVariants as kind
use Rattle.ratatui_files.specs.Paths.{is_inside, name_in, moved_path}

-- what stands in a tree, and the time there
pub record Tree : Type 0 where
  pub entries : List Entry
  pub time : Duration

abbrev pub is_file : Node → Bool
is_file Folder = false
is_file (File bytes) = true

abbrev pub bytes_of : Node → List ℕ
bytes_of Folder = []
bytes_of (File bytes) = bytes

abbrev pub stands_at : List ℕ → Entry → Bool
stands_at path e = bytes_eq e.path path

-- what stands at a path; all is in a folder
abbrev pub node_at : List ℕ → List Entry → Option Node
node_at [] t = Some Folder
node_at (b ∷ path) t = option_map (λ e. e.node) (find (stands_at (b ∷ path)) t)

-- what the file at a path holds
abbrev pub bytes_at : List ℕ → List Entry → List ℕ
bytes_at path t = option_map_or bytes_of (node_at path t) []

-- what is told of a thing with a name
abbrev pub node_kind : Node → Kind
node_kind Folder = kind.Folder
node_kind (File bytes) = kind.File

abbrev pub node_mode : Node → ℕ
node_mode Folder = 0o755
node_mode (File bytes) = 0o644

abbrev pub info_of : Entry → List ℕ → Info
info_of e name = record {
  name = name;
  kind = node_kind e.node;
  size = length (bytes_of e.node);
  modified = Some e.modified;
  mode = Some (node_mode e.node);
}

-- what is told of a thing if it stands in a folder
abbrev pub info_in : List ℕ → Entry → Option Info
info_in folder e = option_map (info_of e) (name_in folder e.path)

-- what stands in a folder
abbrev pub entries_in : List ℕ → List Entry → List Info
entries_in folder t = filter_map (info_in folder) t

-- there is a folder for a thing of that path
abbrev pub has_folder : List ℕ → List Entry → Bool
has_folder path t =
    is_some (name_in [] path) || list_any (λ e. not (is_file e.node) && is_some (name_in e.path path)) t

-- a file stands where a folder would have to, for a thing to be at this path
abbrev pub is_in_file : List ℕ → List Entry → Bool
is_in_file path t = list_any (λ e. is_file e.node && is_inside e.path path) t

-- nothing stands in a folder
abbrev pub is_bare : List ℕ → List Entry → Bool
is_bare folder t = not (list_any (λ e. is_some (name_in folder e.path)) t)

-- a tree without what stands at a path
abbrev pub without : List ℕ → List Entry → List Entry
without path t = filter (λ e. not (stands_at path e)) t

-- with something at a path, and nothing else there
abbrev pub with_node : List ℕ → Node → Duration → List Entry → List Entry
with_node path node time t = without path t ++ record { path = path; node = node; modified = time } ∷ []

-- something at another path
abbrev pub with_path : Entry → List ℕ → Entry
with_path e path = record { path = path; node = e.node; modified = e.modified }

-- with what is at a path, or in it, at another one
abbrev pub renamed : List ℕ → List ℕ → List Entry → List Entry
renamed from to t = map (λ e. with_path e (moved_path from to e.path)) t
