-- Rows whose names have a text.
use Rattle.std.specs.Prelude.{◌≡◌, ◌<◌, ◌≤◌, ◌⊎◌, ◌+◌, ℕ, zero, suc, Bool, true, false, ◌&&◌, ◌||◌, ◌==◌, nat_lt, if◌then◌else◌}
use Rattle.std.specs.Prelude.{List, [], ◌∷◌, length, take, drop, Option, Some, None, slice_get, string_bytes}
use Rattle.std.specs.{List.starts_with, List.position_from, List.list_any, Option.option_map_or, Option.option_or}
use Rattle.std.specs.{Char.is_ascii_uppercase, Str.str_eq_ignore_ascii_case}
use Rattle.files.specs.declared.list.Row.{Row}

-- one of the letters A to Z stands in a text
abbrev pub has_upper : List ℕ → Bool
has_upper text = list_any is_ascii_uppercase text

-- a name begins as a text does; a capital counts as a small letter, unless a capital is sought
abbrev pub starts_as : List ℕ → List ℕ → Bool
starts_as text name =
    if has_upper text then starts_with ◌==◌ name text else str_eq_ignore_ascii_case text (take (length text) name)

-- a text stands somewhere in a name
unfoldable pub stands_in : List ℕ → List ℕ → Bool
stands_in text [] = starts_as text []
stands_in text (b ∷ name) = starts_as text (b ∷ name) || stands_in text name

-- a row has a text in its name, if that is some
abbrev pub row_has : List ℕ → Row → Bool
row_has text row = nat_lt 0 (length text) && stands_in text (string_bytes row.name)

-- there is a row at a place, and its name has a text
abbrev pub has_at : List ℕ → List Row → ℕ → Bool
has_at text rows place = option_map_or (row_has text) (slice_get rows place) false

-- the first row from one on whose name has a text
abbrev pub first_named : List ℕ → List Row → ℕ → Option ℕ
first_named text rows from = position_from (row_has text) from (drop from rows)

-- the last row before one whose name has it
unfoldable pub last_named : List ℕ → List Row → ℕ → Option ℕ
last_named text rows zero = None
last_named text rows (suc k) = if has_at text rows k then Some k else last_named text rows k

-- the next row after one whose name has it; after the last one the first
abbrev pub next_named : List ℕ → List Row → ℕ → Option ℕ
next_named text rows place = option_or (first_named text rows (place + 1)) (first_named text rows 0)

-- the row before one whose name has it; before the first one the last
abbrev pub previous_named : List ℕ → List Row → ℕ → Option ℕ
previous_named text rows place = option_or (last_named text rows place) (last_named text rows (length rows))

-- no row between two has the text
abbrev pub NoneBetween : List ℕ → List Row → ℕ → ℕ → Type 0
NoneBetween text rows low high = (j : ℕ) → low ≤ j → j < high → has_at text rows j ≡ false

-- a row has the text, and none between another row and it, on the way down: it is further down, or the way goes on at the
-- first row
pub record IsNextNamed (text : List ℕ) (rows : List Row) (place found : ℕ) : Type 0 where
  pub has : has_at text rows found ≡ true
  pub way : ((place < found) × NoneBetween text rows (place + 1) found)
      ⊎ ((found ≤ place) × NoneBetween text rows (place + 1) (length rows) × NoneBetween text rows 0 found)

-- and on the way up, which goes on at the last row
pub record IsPreviousNamed (text : List ℕ) (rows : List Row) (place found : ℕ) : Type 0 where
  pub has : has_at text rows found ≡ true
  pub way : ((found < place) × NoneBetween text rows (found + 1) place)
      ⊎ ((place ≤ found) × NoneBetween text rows 0 place × NoneBetween text rows (found + 1) (length rows))
