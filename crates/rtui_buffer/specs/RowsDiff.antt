-- Rows of two buffers, and the updates from the one to the other.
use Rattle.std.specs.Prelude.{ℕ, ◌*◌, List, take, drop}
use Rattle.rtui_cell.specs.{declared.cell.Cell.Cell, Grid.Update}
use Rattle.rtui_diff.specs.Diff.{IsDiff}
use Rattle.rtui_buffer.specs.BufferData.{BufferData}

-- the cells of n rows of a buffer, from row i on
abbrev pub part_cells : BufferData → ℕ → ℕ → List Cell
part_cells s i n = take (s.area.width * n) (drop (i * s.area.width) s.cells)

-- the updates are a diff of n rows of two buffers, each part taken as a buffer at (0, 0)
abbrev pub IsRowsDiff : BufferData → ℕ → BufferData → ℕ → ℕ → List Update → Type 0
IsRowsDiff prev i next j n us = IsDiff 0 0 prev.area.width n (part_cells prev i n) (part_cells next j n) us
