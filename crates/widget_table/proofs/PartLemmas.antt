-- What is drawn of a table, one thing after the other.
use Rattle.std.proofs.Common.{◌≡◌, ℕ, ◌+◌, ◌<◌, ◌≤◌, ◌==◌, ⊎_elim, true, false, min, List, [], ◌∷◌, length, drop}
use Rattle.std.proofs.Common.{Option, Some, None, refl, sym, ap, ◌∙◌, arith}
use Rattle.std.proofs.Math.ListN.{get_or}
use Rattle.std.specs.{Option.option_or}
use Rattle.std.proofs.lemmas.{Bool.cases_lt, Bool.Decides.nat_tests, List.drop_all, List.drop_more}
use Rattle.ratatui_core.specs.{Layout.Rect}
use Rattle.ratatui_core.proofs.WidgetLemmas.{element-next}
use Rattle.rtui_drawing.specs.declared.cut.Cut.TheVariants.{Within}
use Rattle.rtui_drawing.specs.Drawings.{nothing, over, ◌before◌}
use Rattle.widget_list.specs.Items.{is_selected_at}
use Rattle.widget_table.specs.{declared.cell.Cell.Cell, declared.row.Row.Row, Inner.IsTableArea}
use Rattle.widget_table.specs.Rows.{PlacedRow, stacked_rows, cells_area, below, full_height}
use Rattle.widget_table.specs.Tables.{styled_text, cells_drawing, selected_row_area, area_if}

-- the cells from one on, and none after the last one that has a column
pub cells-next : (columns : List Rect) (cells : List Cell) (k : ℕ) (none : Rect) (cell : Cell)
    → k < min (length cells) (length columns) → cell ≡ get_or cells k cell
    → cells_drawing (drop k columns) (drop k cells) ≡ (over (Within (get_or columns k none)) (styled_text cell.style cell.content)
    before cells_drawing (drop (k + 1) columns) (drop (k + 1) cells))
cells-next columns cells k none cell lt is =
    rw (drop_more columns k none (omega arith), element-next cells k cell (omega arith) is) refl

no-cells : (columns : List Rect) → cells_drawing columns [] ≡ nothing
no-cells [] = refl
no-cells (column ∷ columns) = refl

pub cells-end : (columns : List Rect) (cells : List Cell) (k : ℕ) → min (length cells) (length columns) ≤ k
    → cells_drawing (drop k columns) (drop k cells) ≡ nothing
cells-end columns cells k end =
    ⊎_elim
    (λ (some : k < length columns). let none = drop_all k cells (omega arith) in rw none (no-cells (drop k columns)))
    (λ (past : length columns ≤ k). let none = drop_all k columns past in rw none refl)
    (cases_lt k (length columns))

-- areas below one another
pub below-area : (n : ℕ) (r : Rect) → IsTableArea r → IsTableArea (below n r)
below-area n r is = let d = is.down in record { columns = is.columns; across = is.across; down = omega arith }

-- the next row
module _ (r : Rect) (k : ℕ) (rows : List Row) (row : Row) (some : 0 < r.height) (lt : k < length rows) (is : row ≡ get_or rows k row) where
  abbrev placed : PlacedRow
  placed = record { row = row; number = k; area = cells_area row r }

  pub rows-is : stacked_rows k r (drop k rows) ≡ placed ∷ stacked_rows (k + 1) (below (full_height row) r) (drop (k + 1) rows)
  rows-is = let test : (r.height == 0) ≡ false = grind (arith, nat_tests) in rw (element-next rows k row lt is, test) refl

  pub area-next : (selected : Option ℕ) (was all : Option Rect) → option_or was (selected_row_area selected (stacked_rows k r (drop k rows))) ≡ all
      → option_or (option_or was (area_if (is_selected_at selected k) (cells_area row r)))
      (selected_row_area selected (stacked_rows (k + 1) (below (full_height row) r) (drop (k + 1) rows))) ≡ all
  area-next selected was all so_far = or-assoc was _ _ ∙ ap (λ ps. option_or was (selected_row_area selected ps)) (sym rows-is) ∙ so_far
    where
      or-assoc : (a b c : Option Rect) → option_or (option_or a b) c ≡ option_or a (option_or b c)
      or-assoc None b c = refl
      or-assoc (Some x) b c = refl

-- no rows are left
pub rows-end : (k : ℕ) (r : Rect) (rows : List Row) → length rows ≤ k → stacked_rows k r (drop k rows) ≡ []
rows-end k r rows end = rw (drop_all k rows end) refl

pub rows-stop : (k : ℕ) (r : Rect) (rows : List Row) → r.height ≡ 0 → stacked_rows k r rows ≡ []
rows-stop k r [] none = refl
rows-stop k r (row ∷ rows) none = let test : (r.height == 0) ≡ true = grind (arith, nat_tests) in rw test refl

pub area-end : (selected : Option ℕ) (a all : Option Rect) (ps : List PlacedRow) → ps ≡ []
    → option_or a (selected_row_area selected ps) ≡ all → a ≡ all
area-end selected None all ps none is = sym (ap (selected_row_area selected) none) ∙ is
area-end selected (Some r) all ps none is = is
