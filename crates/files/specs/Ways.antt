-- Where a typed path leads.
use Rattle.std.specs.Prelude.{ℕ, Bool, false, ◌==◌, ◌||◌, if◌then◌else◌, List, [], ◌∷◌, ◌++◌, length, codes}
use Rattle.std.specs.Prelude.{Option, Some, None}
use Rattle.std.specs.Str.{byte, bytes_eq}
use Rattle.std.specs.List.{fold, slice_split}
use Rattle.std.specs.Option.{option_map_or, option_and_then, unwrap_or}
use Rattle.std.specs.Path.{rsplit_once}
use Rattle.ratatui_files.specs.Paths.{is_slash, is_path, path_in, after_start}
use Rattle.files.specs.declared.browser.Browser.{Browser}
use Rattle.files.specs.Texts.{inner_text}

-- ---- what is typed

abbrev pub begins_with_slash : List ℕ → Bool
begins_with_slash [] = false
begins_with_slash (b ∷ text) = is_slash b

-- what follows a tilde that is the first name of a typed path
abbrev pub after_tilde : List ℕ → Option (List ℕ)
after_tilde text = option_and_then
    (λ rest. if length rest == 0 || begins_with_slash rest then Some rest else None) (after_start (codes "~") text)

-- a typed path goes on from the folder that is shown, unless it begins with a slash
abbrev pub from_shown : Browser → List ℕ → List ℕ
from_shown b text = if begins_with_slash text then text else inner_text b ++ codes "/" ++ text

-- a typed path, from the folder on above which nothing is reached; a tilde stands for that folder, too
abbrev pub path_meant : Browser → List ℕ → List ℕ
path_meant b text = unwrap_or (after_tilde text) (from_shown b text)

-- ---- where it leads

-- the path above a path; nothing is above the empty one
abbrev pub cut_path : List ℕ → List ℕ
cut_path path = option_map_or (λ parts. parts.0) (rsplit_once (byte "/") path) []

abbrev pub path_above : List ℕ → Option (List ℕ)
path_above path = if length path == 0 then None else Some (cut_path path)

-- where a part of a typed path leads: no text and a dot lead nowhere else, two dots lead above, and a name
-- leads to what has it
abbrev pub after_part : List ℕ → List ℕ → Option (List ℕ)
after_part path part =
    if bytes_eq part [] || bytes_eq part (codes ".") then Some path
    else if bytes_eq part (codes "..") then path_above path
    else Some (path_in path part)

-- where parts lead, one after the other
abbrev pub after_parts : List (List ℕ) → Option (List ℕ)
after_parts parts = fold (λ at part. option_and_then (λ path. after_part path part) at) (Some []) parts

-- a path from the folder on above which nothing is reached
abbrev pub path_below : Browser → List ℕ → List ℕ
path_below b inner = if length inner == 0 then b.base else path_in b.base inner

abbrev pub path_if : List ℕ → Option (List ℕ)
path_if text = if is_path text then Some text else None

-- where a typed path leads; nowhere, if that is above this folder
abbrev pub way_of : Browser → List ℕ → Option (List ℕ)
way_of b text =
    option_and_then (λ inner. path_if (path_below b inner)) (after_parts (slice_split is_slash (path_meant b text)))
