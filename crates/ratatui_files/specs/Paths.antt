-- Paths in a tree of files: names with slashes between them. The empty path is the folder that all is in.
use Rattle.std.specs.Prelude.{ℕ, ◌==◌, ◌&&◌, ◌||◌, Bool, not, if◌then◌else◌, nat_eq}
use Rattle.std.specs.Prelude.{List, [], ◌∷◌, ◌++◌, length, drop, codes, Option, Some, None, is_some}
use Rattle.std.specs.Option.{option_and_then, option_map_or}
use Rattle.std.specs.List.{list_all, list_any, slice_split, starts_with}
use Rattle.std.specs.Str.{bytes_eq}
use Rattle.std.specs.Str.{byte}

abbrev pub is_slash : ℕ → Bool
is_slash b = b == byte "/"

-- what stands in no name
abbrev pub is_unnamed : ℕ → Bool
is_unnamed b = b == 0 || is_slash b

-- what can be a name in a folder: some text, neither `.` nor `..`, without NUL and without a slash
abbrev pub is_name : List ℕ → Bool
is_name name =
    not (bytes_eq name []) && not (bytes_eq name (codes ".")) && not (bytes_eq name (codes ".."))
    && not (list_any is_unnamed name)

-- nothing, or names with slashes between them
abbrev pub is_path : List ℕ → Bool
is_path path = bytes_eq path [] || list_all is_name (slice_split is_slash path)

-- the path of a name in a folder
abbrev pub path_in : List ℕ → List ℕ → List ℕ
path_in [] name = name
path_in (c ∷ folder) name = (c ∷ folder) ++ codes "/" ++ name

-- what follows such a beginning of a text
abbrev pub after_start : List ℕ → List ℕ → Option (List ℕ)
after_start start text = if starts_with nat_eq text start then Some (drop (length start) text) else None

-- the path of a thing from a folder that it is in, or in a folder of which
abbrev pub path_from : List ℕ → List ℕ → Option (List ℕ)
path_from [] [] = None
path_from [] (b ∷ path) = Some (b ∷ path)
path_from (c ∷ folder) path = option_and_then (after_start (codes "/")) (after_start (c ∷ folder) path)

abbrev pub is_inside : List ℕ → List ℕ → Bool
is_inside folder path = is_some (path_from folder path)

-- a name, if a path is one
abbrev pub only_name : List ℕ → Option (List ℕ)
only_name path = if list_any is_slash path then None else Some path

-- the name of a thing in the folder that it is in
abbrev pub name_in : List ℕ → List ℕ → Option (List ℕ)
name_in folder path = option_and_then only_name (path_from folder path)

-- where a thing is once another one, or a folder that it is in, is moved_path
abbrev pub moved_path : List ℕ → List ℕ → List ℕ → List ℕ
moved_path from to path =
    if bytes_eq path from then to
    else option_map_or (λ rest. to ++ codes "/" ++ rest) (path_from from path) path
