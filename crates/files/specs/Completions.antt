-- How a typed path is completed.
use Rattle.std.specs.Prelude.{ℕ, suc, Bool, not, ◌==◌, ◌||◌, if◌then◌else◌, List, [], ◌∷◌, ◌++◌, length}
use Rattle.std.specs.Prelude.{take, take_while, codes, Option, Some, None, option_map, map, chars}
use Rattle.std.specs.Prelude.{encode_utf8_all}
use Rattle.std.specs.Str.{byte}
use Rattle.std.specs.List.{fold}
use Rattle.std.specs.Option.{option_map_or, unwrap_or}
use Rattle.std.specs.Path.{rsplit_once}
use Rattle.text_field.specs.Field.{is_typed}
use Rattle.ratatui_files.specs.Paths.{after_start}
use Rattle.ratatui_files.specs.declared.answer.Info.{Info}
use Rattle.ratatui_files.specs.declared.answer.Kind.{Kind}
use Rattle.files.specs.Sorting.{is_listed, is_no_folder}

-- the folder part of a typed path, up to its last slash, and the last part, after it
abbrev pub folder_part : List ℕ → List ℕ
folder_part text = option_map_or (λ parts. parts.0 ++ codes "/") (rsplit_once (byte "/") text) []

abbrev pub last_part : List ℕ → List ℕ
last_part text = option_map_or (λ parts. parts.1) (rsplit_once (byte "/") text) text

-- a slash ends the name of a folder
abbrev pub name_end : Kind → List ℕ
name_end kind = if is_no_folder kind then [] else codes "/"

-- the characters of a text up to one that can't be typed
abbrev pub typed_chars : List ℕ → List ℕ
typed_chars text = take_while is_typed (chars text)

-- an entry that is listed, or of which something is typed
abbrev pub is_offered : Bool → List ℕ → Info → Bool
is_offered hidden start info = is_listed (hidden || not (length start == 0)) info.name

-- how an entry goes on whose name has a beginning
abbrev pub entry_rest : Bool → List ℕ → Info → Option (List ℕ)
entry_rest hidden start info =
    if is_offered hidden start info
    then option_map (λ rest. typed_chars (rest ++ name_end info.kind)) (after_start start info.name)
    else None

-- how many characters two texts have in common at their start
unfoldable pub common_count : List ℕ → List ℕ → ℕ
common_count [] other = 0
common_count (c ∷ one) [] = 0
common_count (c ∷ one) (d ∷ other) = if c == d then suc (common_count one other) else 0

-- what texts have in common at their start, with one text more, if there is one
abbrev pub common_with : Option (List ℕ) → Option (List ℕ) → Option (List ℕ)
common_with None text = text
common_with (Some common) None = Some common
common_with (Some common) (Some text) = Some (take (common_count common text) common)

abbrev pub in_common : List (Option (List ℕ)) → Option (List ℕ)
in_common texts = fold common_with None texts

-- how a beginning of a name goes on: as all entries do that have it
abbrev pub completion : Bool → List ℕ → List Info → List ℕ
completion hidden start entries =
    encode_utf8_all (unwrap_or (in_common (map (entry_rest hidden start) entries)) [])
