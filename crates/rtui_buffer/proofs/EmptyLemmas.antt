-- Empty buffers are settled, and blank grids show them.
use Rattle.std.proofs.Common.{◌≡◌, ℕ, zero, suc, ◌+◌, ◌*◌, ◌<◌, refl, sym, ap, ◌∙◌, arith, List, length}
use Rattle.rtui_cell.specs.{Look.look_of, Look.empty_look, Cell.empty_cell, Cell.width_of, Grid.Grid, declared.cell.Cell.Cell}
use Rattle.rtui_cell.proofs.CellLemmas.{look-empty, width-empty}
use Rattle.rtui_diff.specs.Cells.{cell, cell_at}
use Rattle.rtui_geometry.specs.{declared.rect.Rect.Rect, declared.position.Position.Position}
use Rattle.rtui_buffer.specs.BufferData.{BufferData, IsEmptied, empty_cells, area_size, cell_in, cell_index, position_of}
use Rattle.rtui_buffer.specs.{PaintedText.IsPaintable, Shown.IsSettledBuffer, Shown.ShowsBuffer}
use Rattle.std.proofs.lemmas.List.{ext_get_or, length-replicate}

pub cell-empty : (n i : ℕ) → cell (empty_cells n) i ≡ empty_cell
cell-empty zero i = refl
cell-empty (suc n) zero = refl
cell-empty (suc n) (suc i) = cell-empty n i

-- cells that are all empty
pub all-empty : (n : ℕ) (cells : List Cell) → length cells ≡ n → ((k : ℕ) → k < n → cell cells k ≡ empty_cell)
    → cells ≡ empty_cells n
all-empty n cells count empty = ext_get_or empty_cell cells (empty_cells n) (count ∙ sym (length-replicate n empty_cell))
    (λ k k_in. empty k (omega arith) ∙ sym (cell-empty n k))

module _ (r : Rect) (s : BufferData) (emptied : IsEmptied r s) where
  all_empty : (w a b : ℕ) → cell_at w s.cells a b ≡ empty_cell
  all_empty w a b = rw emptied.cells (cell-empty (area_size r) (b * w + a))

  one_column : (w a b : ℕ) → width_of (cell_at w s.cells a b) ≡ 1
  one_column w a b = ap width_of (all_empty w a b) ∙ width-empty

  pub IsSettledBuffer-empty : IsSettledBuffer s
  IsSettledBuffer-empty = record {
    skipped = λ a b a_in b_in skip. let one = one_column s.area.width a b in omega arith;
    within = λ a b a_in b_in plain. let one = one_column s.area.width a b in omega arith;
    behind = λ a b k a_in b_in plain more less. let one = one_column s.area.width a b in absurd (omega arith);
  }

  cell_in-empty : (p : Position) → cell_in s p ≡ empty_cell
  cell_in-empty p = rw emptied.cells (cell-empty (area_size r) (cell_index s.area p))

  pub IsPaintable-empty : (p : Position) (n : ℕ) → IsPaintable p n s
  IsPaintable-empty p n = record {
    unmarked = λ a le lt. rw (cell_in-empty (position_of (a, p.y))) (record { option = refl; flag = refl });
    uncovered = λ a le lt plain. let one : width_of (cell_in s (position_of (a, p.y))) ≡ 1 =
        ap width_of (cell_in-empty (position_of (a, p.y))) ∙ width-empty in omega arith;
  }

  pub ShowsBuffer-empty : (g : Grid)
      → ((a b : ℕ) → a < s.area.width → b < s.area.height → g (s.area.x + a) (s.area.y + b) ≡ empty_look) → ShowsBuffer s g
  ShowsBuffer-empty g blank = record {
    at = λ a b a_in b_in. record {
      look = λ plain. blank a b a_in b_in ∙ sym (ap look_of (all_empty s.area.width a b) ∙ look-empty);
      behind = λ j before plain covers. let one = one_column s.area.width j b in absurd (omega arith);
    };
  }
