-- What stands in the columns of a terminal, and what writing over a part of it leaves.
use Rattle.std.specs.Prelude.{ℕ, ◌-◌, ◌==◌, Bool, true, false, if◌then◌else◌}
use Rattle.std.specs.List.{list_any, range_with_len}
use Rattle.ratatui_core.specs.Buffer.{Look, empty_look}

-- one of the columns of a symbol, counted from 0, and how many the symbol takes; or nothing that is known
pub data Column : Type 0 where
  Shows : (look : Look) (index count : ℕ) → Column
  Unknown : Column

-- what stands in a column and a row
abbrev pub Columns : Type 0
Columns = ℕ → ℕ → Column

abbrev pub blank_column : Column
blank_column = Shows empty_look 0 1

-- what a column shows: after the first column of its symbol nothing of its own
abbrev pub look_in : Column → Look
look_in (Shows look index count) = if index == 0 then look else empty_look
look_in Unknown = empty_look

abbrev pub is_known_column : Column → Bool
is_known_column (Shows look index count) = true
is_known_column Unknown = false

-- whether a column is a continuation column
abbrev pub is_continuation : Column → Bool
is_continuation (Shows look index count) = if index == 0 then false else true
is_continuation Unknown = false

-- columns of a screen, by column and row
abbrev pub Area : Type 0
Area = ℕ → ℕ → Bool

-- whether a symbol, of which this is column a of row b, has a column in an area
abbrev pub is_met : Area → ℕ → ℕ → Column → Bool
is_met area a b (Shows look index count) = list_any (λ k. area k b) (range_with_len (a - index) count)
is_met area a b Unknown = false

-- an area written over: what is left of a symbol that lost a column to it isn't known, until it is written
abbrev pub overwritten : Area → Columns → Columns → Columns
overwritten area new old a b =
    if area a b then new a b
    else (if is_met area a b (old a b) then Unknown else old a b)
