-- What a list of cells shows in a column.
use Rattle.std.proofs.Common.{◌≡◌, ℕ, ◌+◌, ◌*◌, ◌<◌, ◌==◌, nat_lt, if◌then◌else◌, List, get_or, length, map, set, refl, ap, sym}
use Rattle.std.proofs.Common.{◌∙◌, arith, slice_index_or}
use Rattle.std.proofs.Math.ListN.{get_or-map}
use Rattle.std.proofs.lemmas.{Bool.cond_both, Bool.Decides.nat_tests, List.length-map, List.map-set, Grind.common_steps}
use Rattle.rtui_cell.specs.{declared.cell.Cell.Cell, Cell.empty_cell, Look.look_of, Look.empty_look}
use Rattle.rtui_cell.proofs.CellLemmas.{look-empty}
use Rattle.rtui_diff.specs.Cells.{cell}
use Rattle.rtui_buffer.specs.BufferData.{empty_cells}
use Rattle.rtui_buffer.proofs.EmptyLemmas.{cell-empty}
use Rattle.rtui_backend.specs.CellGrid.{look_at, grid_of}

-- a cell shows its look
pub look_at-cell : (cells : List Cell) (i : ℕ) → look_at cells i ≡ look_of (slice_index_or cells i empty_cell)
look_at-cell cells i = ap (get_or (map look_of cells) i) (sym look-empty) ∙ get_or-map look_of cells i empty_cell

pub ruleset cell_looks = (look_at-cell)

pub grid-cell : (w a b : ℕ) (cells : List Cell) → a < w → grid_of w cells a b ≡ look_of (cell cells (b * w + a))
grid-cell w a b cells a_in = let on : grid_of w cells a b ≡ look_at cells (b * w + a) = grind (arith, nat_tests) in
    on ∙ look_at-cell cells (b * w + a)

-- a cell that is written shows its look, and the others what they showed
pub look_at-set : (cells : List Cell) (i j : ℕ) (c : Cell) → i < length cells
    → look_at (set cells i c) j ≡ if j == i then look_of c else look_at cells j
look_at-set cells i j c inside = simp map-set (grind (arith, common_steps, length-map))

-- empty cells show nothing
pub grid_of-empty : (w n a b : ℕ) → grid_of w (empty_cells n) a b ≡ empty_look
grid_of-empty w n a b = cond_both (nat_lt a w) _ _ (λ l. l ≡ empty_look) (λ _. look_at-cell (empty_cells n) (b * w + a)
    ∙ ap look_of (cell-empty n (b * w + a)) ∙ look-empty) (λ _. refl)
