-- The grid that a row-major list of cells stands for.
use Rattle.std.specs.Prelude.{ℕ, ◌+◌, ◌*◌, nat_lt, if◌then◌else◌, List, map, All, slice_index_or}
use Rattle.rtui_cell.specs.{declared.cell.Cell.Cell, Cell.IsUnmarked, Look.Look, Look.look_of}
use Rattle.rtui_cell.specs.{Look.empty_look, Grid.Grid}
use Rattle.rtui_diff.specs.Cells.{cell}

-- the look at a place, and the empty one past the end
abbrev pub look_at : List Cell → ℕ → Look
look_at cells i = slice_index_or (map look_of cells) i empty_look

-- rows of w columns
abbrev pub grid_of : ℕ → List Cell → Grid
grid_of w cells a b = if nat_lt a w then look_at cells (b * w + a) else empty_look

-- no cell has an option or the flag
abbrev pub AreUnmarked : List Cell → Type 0
AreUnmarked cells = (i : ℕ) → IsUnmarked (cell cells i)

-- nor any cell of these rows
abbrev pub AreUnmarkedRows : List (List Cell) → Type 0
AreUnmarkedRows rows = All AreUnmarked rows
