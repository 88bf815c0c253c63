-- The rows of a table with the highlights over them, between a header and a footer.
use Rattle.std.proofs.Common.{◌≡◌, ℕ, ◌==◌, not, Bool, true, false, List, Option, Some, None, is_some, length, refl}
use Rattle.std.proofs.Common.{Result, Ok, Err, OnOk}
use Rattle.std.specs.declared.alloc.AllocError.{AllocError}
use Rattle.ratatui_core.specs.{Layout.Rect, Layout.intersected, Widgets.ChangesWithin, Buffer.BufferData}
use Rattle.ratatui_core.proofs.BufferLemmas.{within-same, within-wider}
use Rattle.ratatui_core.proofs.WidgetLemmas.{within-then}
use Rattle.widget_boxes.specs.{Titles.DoesIf, Titles.InTurn}
use Rattle.widget_boxes.proofs.{ApartLemmas.lit-within, ApartBoxLemmas.clip-in}
use Rattle.rtui_drawing.specs.Drawings.{DrawsAll, IsDone}
use Rattle.rtui_drawing.proofs.DrawingLemmas.{draws-within}
use Rattle.widget_table.specs.{declared.table.Table.Table as TableData, declared.state.TableState.TableState}
use Rattle.widget_table.specs.Rows.{PlacedRow, rows_area, footer_area}
use Rattle.widget_table.specs.Tables.{rows_drawing, outer_drawing, selected_row_area, selected_column, placed_rows, symbol_columns}
use Rattle.widget_table.specs.Tables.{Highlights, ShowsBody, ShowsTableParts}

-- highlights change nothing outside the area
highlights-within : (t : TableData) (row column : Option Rect) (place r : Rect) (old new : BufferData)
    → Highlights t row column place r old new → ChangesWithin r old new
highlights-within t None None place r old new same = rw same (within-same r old)
highlights-within t (Some row) None place r old new is =
    within-wider (intersected r row) r old new (clip-in r row) (lit-within t.row_highlight_style (intersected r row) old new is)
highlights-within t None (Some q) place r old new is =
    let part = intersected (intersected r place) q in
    within-wider part r old new (λ p h. clip-in r place p (clip-in (intersected r place) q p h))
    (lit-within t.column_highlight_style part old new is)
highlights-within t (Some row) (Some q) place r old new is =
    let part = intersected (intersected r place) q in
    let both = intersected (intersected r row) q in
    let more = is.second in
    within-then r old is.between new
    (within-wider (intersected r row) r old is.between (clip-in r row)
    (lit-within t.row_highlight_style (intersected r row) old is.between is.first))
    (within-then r is.between more.between new
    (within-wider part r is.between more.between (λ p h. clip-in r place p (clip-in (intersected r place) q p h))
    (lit-within t.column_highlight_style part is.between more.between more.first))
    (within-wider both r more.between new (λ p h. clip-in r row p (clip-in (intersected r row) q p h))
    (lit-within t.cell_highlight_style both more.between new more.second)))

-- nor does what stands where rows do
module _ (t : TableData) (u : TableState) (n : ℕ) (columns : List Rect) (place r : Rect) (old new : BufferData) where
  abbrev rows : List PlacedRow
  rows = placed_rows t u place

  pub body-within : ShowsBody t u n columns place r old new → ChangesWithin r old new
  body-within = by-test (not (length t.rows.items == 0))
    where
      by-test : (some : Bool) → DoesIf some (InTurn (DrawsAll (rows_drawing t u.selected n columns rows) r)
          (Highlights t (selected_row_area u.selected rows) (selected_column u.selected_column columns) place r)) old new
          → ChangesWithin r old new
      by-test true is =
          within-then r old is.between new (draws-within (rows_drawing t u.selected n columns rows) r old is.between is.first)
          (highlights-within t (selected_row_area u.selected rows) (selected_column u.selected_column columns) place r is.between new
          is.second)
      by-test false same = rw same (within-same r old)

-- nor does the whole
pub parts-within : (t : TableData) (u : TableState) (columns : List Rect) (r : Rect) (old new : BufferData)
    → ShowsTableParts t u columns r old new → ChangesWithin r old new
parts-within t u columns r old new is =
    within-then r old is.headed new (draws-within (outer_drawing columns t.header r) r old is.headed is.header)
    (within-then r is.headed is.filled new
    (body-within t u (symbol_columns t (is_some u.selected) r) columns (rows_area t.header t.footer r) r is.headed is.filled is.body)
    (draws-within (outer_drawing columns t.footer (footer_area t.header t.footer r)) r is.filled new is.footer))

-- one thing after the other
pub body-none : (t : TableData) (u : TableState) (n : ℕ) (columns : List Rect) (place r : Rect) (s : BufferData)
    → (length t.rows.items == 0) ≡ true → ShowsBody t u n columns place r s s
body-none t u n columns place r s none = rw none refl

pub body-made : (t : TableData) (u : TableState) (n : ℕ) (columns : List Rect) (place r : Rect) (old mid new : BufferData)
    → (length t.rows.items == 0) ≡ false → DrawsAll (rows_drawing t u.selected n columns (placed_rows t u place)) r old mid
    → Highlights t (selected_row_area u.selected (placed_rows t u place)) (selected_column u.selected_column columns) place r mid new
    → ShowsBody t u n columns place r old new
body-made t u n columns place r old mid new some drawn highlights =
    rw some (record { between = mid; first = drawn; second = highlights })

pub parts-made : {A : Type 0} (result : Result A AllocError) (t : TableData) (u : TableState) (columns : List Rect) (r : Rect)
    (old headed filled new : BufferData) → DrawsAll (outer_drawing columns t.header r) r old headed
    → ShowsBody t u (symbol_columns t (is_some u.selected) r) columns (rows_area t.header t.footer r) r headed filled
    → IsDone (outer_drawing columns t.footer (footer_area t.header t.footer r)) r result filled new
    → OnOk result (ShowsTableParts t u columns r old new)
parts-made (Ok x) t u columns r old headed filled new header body footer =
    record { headed = headed; filled = filled; header = header; body = body; footer = footer.ok }
parts-made (Err e) t u columns r old headed filled new header body footer = tt
