-- A row that is in view has an area with all rows of its cells.
use Rattle.std.proofs.Common.{◌≡◌, ℕ, zero, suc, ◌+◌, ◌-◌, ◌<◌, ◌≤◌, ◌==◌, true, false, List, [], ◌∷◌, map, take, drop}
use Rattle.std.proofs.Common.{slice_index_or, Option, Some, refl, ap, subst, ◌∙◌, arith}
use Rattle.std.proofs.lemmas.Bool.Decides.{nat_tests}
use Rattle.std.proofs.lemmas.{List.take-take, List.drop-take, List.Sums.sum_by-cons, List.Sums.sum_by-take-drop}
use Rattle.ratatui_core.specs.Layout.{Rect}
use Rattle.widget_table.specs.{declared.table.Table.Table as TableData, declared.row.Row.Row, declared.state.TableState.TableState}
use Rattle.widget_table.specs.Rows.{stacked_rows, cells_area, below, full_height, upper_height, height_before, upper_at, cells_at}
use Rattle.widget_table.specs.Rows.{IsInView}
use Rattle.widget_table.specs.Tables.{selected_row_area, placed_rows, IsShownWhole}

-- the area of a row, with all rows of its cells
record HasArea (o : Option Rect) (height : ℕ) : Type 0 where
  area : Rect
  stands : o ≡ Some area
  whole : area.height ≡ height

-- the cells of a row are no higher than with its upper margin
cells-upper : (rows : List Row) (k : ℕ) → cells_at rows k ≤ upper_at rows k
cells-upper [] k = omega arith
cells-upper (row ∷ rows) zero = omega arith
cells-upper (row ∷ rows) (suc k) = cells-upper rows k

-- row j of some rows, the first of which is number k
row-area : (k j : ℕ) (r : Rect) (rows : List Row) → 0 < cells_at rows j → height_before rows j + upper_at rows j ≤ r.height
    → HasArea (selected_row_area (Some (k + j)) (stacked_rows k r rows)) (cells_at rows j)
row-area k j r [] some fits = absurd (omega arith)
row-area k zero r (row ∷ rows) some fits =
    let open_ : (r.height == 0) ≡ false = grind (arith, nat_tests) in
    let here : (k + 0 == k) ≡ true = grind (arith, nat_tests) in
    record { area = cells_area row r; stands = rw (open_, here) refl; whole = omega arith }
row-area k (suc j) r (row ∷ rows) some fits =
    let sum : height_before (row ∷ rows) (suc j) ≡ full_height row + height_before rows j =
    sum_by-cons full_height row (take j rows) in
    let high = cells-upper rows j in
    let tall : 0 < r.height = omega arith in
    let rest = row-area (k + 1) j (below (full_height row) r) rows some (omega arith) in
    let open_ : (r.height == 0) ≡ false = grind (arith, nat_tests) in
    let other : (k + suc j == k) ≡ false = grind (arith, nat_tests) in
    let number : k + 1 + j ≡ k + suc j = omega arith in
    record { area = rest.area; stands = rw (open_, other) (rw number at rest.stands); whole = rest.whole }

-- the rows from one on
height-drop : (rows : List Row) (n j : ℕ) → height_before rows n + height_before (drop n rows) j ≡ height_before rows (n + j)
height-drop rows n j =
    let both = sum_by-take-drop full_height (take (n + j) rows) n in
    let front : take n (take (n + j) rows) ≡ take n rows = take-take n (n + j) rows (omega arith) in
    rw (front, drop-take n j rows) at both

at-drop : (f : Row → ℕ) (rows : List Row) (n j : ℕ) → slice_index_or (map f (drop n rows)) j 0 ≡ slice_index_or (map f rows)
    (n + j) 0
at-drop f [] zero j = refl
at-drop f [] (suc n) j = refl
at-drop f (row ∷ rows) zero j = let e : 0 + j ≡ j = omega arith in rw e refl
at-drop f (row ∷ rows) (suc n) j = let e : suc n + j ≡ suc (n + j) = omega arith in rw e (at-drop f rows n j)

pub shown-whole : (t : TableData) (u : TableState) (r : Rect) (selected : ℕ) → u.selected ≡ Some selected → u.offset ≤ selected
    → IsInView t.rows.items r.height u.offset selected → 0 < cells_at t.rows.items selected
    → IsShownWhole t u r selected
shown-whole t u r selected is le view some =
    let e : u.offset + (selected - u.offset) ≡ selected = omega arith in
    let upper : upper_at (drop u.offset t.rows.items) (selected - u.offset) ≡ upper_at t.rows.items selected =
    at-drop upper_height t.rows.items u.offset (selected - u.offset) ∙ ap (upper_at t.rows.items) e in
    let cells : cells_at (drop u.offset t.rows.items) (selected - u.offset) ≡ cells_at t.rows.items selected =
    at-drop (λ row. row.height) t.rows.items u.offset (selected - u.offset) ∙ ap (cells_at t.rows.items) e in
    let height : height_before t.rows.items u.offset + height_before (drop u.offset t.rows.items)
    (selected - u.offset) ≡ height_before t.rows.items selected =
    height-drop t.rows.items u.offset (selected - u.offset) ∙ ap (height_before t.rows.items) e in
    let there = row-area u.offset (selected - u.offset) r (drop u.offset t.rows.items) (rw cells some) (omega arith) in
    record {
      area = there.area;
      stands = rw is (subst (λ k. selected_row_area (Some k) (placed_rows t u r) ≡ Some there.area) e
          there.stands);
      whole = there.whole ∙ cells;
    }
