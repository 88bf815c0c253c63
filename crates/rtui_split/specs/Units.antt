-- What exact sizes are counted in.
use Rattle.std.specs.Prelude.{ℕ, ◌+◌, ◌*◌, ◌/◌, ◌≤◌}

-- so many units make one column or row
abbrev pub cell_units : ℕ
cell_units = 5040000

-- so many levels make one unit
abbrev pub unit_levels : ℕ
unit_levels = 1048576

-- what is added to a place before it is cut to whole cells: half a cell, and up to 0.0075 more
abbrev pub IsRounding : ℕ → Type 0
IsRounding n = (cell_units / 2 ≤ n) × (n ≤ cell_units / 2 + cell_units * 3 / 400)
