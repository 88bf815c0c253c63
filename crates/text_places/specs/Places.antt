-- Places in a text whose lines are broken into rows. Of the text it matters how many rows each line takes, by
-- its number from 0 on: one or more.
use Rattle.std.specs.Prelude.{◌<◌, ℕ, zero, suc, ◌+◌, ◌-◌, ◌==◌, ◌&&◌, ◌||◌, Bool, nat_lt, min, if◌then◌else◌}
use Rattle.text_places.specs.declared.place.Place.{Place}

-- each line takes a row or more
abbrev pub HaveRows : (ℕ → ℕ) → Type 0
HaveRows rows = (line : ℕ) → 0 < rows line

-- a place by its line and its row
abbrev pub text_place : ℕ → ℕ → Place
text_place line row = record { line = line; row = row }

-- a place is one of the rows of its line
abbrev pub IsInLine : (ℕ → ℕ) → Place → Type 0
IsInLine rows q = q.row < rows q.line

-- the next row of a text, which goes on after its end
abbrev pub next_place : (ℕ → ℕ) → Place → Place
next_place rows q =
    if nat_lt (q.row + 1) (rows q.line) then text_place q.line (q.row + 1) else text_place (q.line + 1) 0

-- the row before; the first one stays
abbrev pub previous_place : (ℕ → ℕ) → Place → Place
previous_place rows q =
    if nat_lt 0 q.row then text_place q.line (q.row - 1)
    else if nat_lt 0 q.line then text_place (q.line - 1) (rows (q.line - 1) - 1)
    else q

-- so many rows further, and back
unfoldable pub places_after : (ℕ → ℕ) → ℕ → Place → Place
places_after rows zero q = q
places_after rows (suc n) q = next_place rows (places_after rows n q)

unfoldable pub places_before : (ℕ → ℕ) → ℕ → Place → Place
places_before rows zero q = q
places_before rows (suc n) q = previous_place rows (places_before rows n q)

-- a place stands before another one
abbrev pub is_before : Place → Place → Bool
is_before a b = nat_lt a.line b.line || ((a.line == b.line) && nat_lt a.row b.row)

-- the earlier one of two places, and the later one
abbrev pub earlier_place : Place → Place → Place
earlier_place a b = if is_before a b then a else b

abbrev pub later_place : Place → Place → Place
later_place a b = if is_before a b then b else a

-- a row of a line, or its last one if it has fewer
abbrev pub place_there : (ℕ → ℕ) → Place → Place
place_there rows q = text_place q.line (min q.row (rows q.line - 1))

-- how many rows n lines take, from one on
abbrev pub lines_rows : (ℕ → ℕ) → ℕ → ℕ → ℕ
lines_rows rows line zero = 0
lines_rows rows line (suc n) = rows line + lines_rows rows (line + 1) n

-- how many rows further a place stands than another one
abbrev pub rows_between : (ℕ → ℕ) → Place → Place → ℕ
rows_between rows a b = lines_rows rows a.line (b.line - a.line) + b.row - a.row

-- of all views of n rows that have a place in them, the one that begins nearest to where it began
abbrev pub view_begin : (ℕ → ℕ) → Place → Place → ℕ → Place
view_begin rows former q n =
    later_place (earlier_place (place_there rows former) q) (places_before rows (n - 1) q)
