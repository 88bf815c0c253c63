-- A table of narrow texts keeps cells plain.
use Rattle.std.proofs.Common.{ℕ, ◌+◌, ◌==◌, not, nat_lt, Bool, true, false, if◌then◌else◌, List, [], ◌∷◌, IfSome}
use Rattle.std.proofs.Common.{drop, length, All, Option, Some, None, is_some}
use Rattle.std.proofs.lemmas.{List.Elements.All-head, List.Elements.All-tail, List.Elements.All-drop}
use Rattle.ratatui_core.specs.Layout.{Rect, intersected}
use Rattle.ratatui_core.specs.{Style.Style, Text.TextData, Text.TakesOneColumn, Text.EachTextGrapheme}
use Rattle.ratatui_core.specs.Buffer.{BufferData, IsPlainFrom}
use Rattle.ratatui_core.proofs.BufferLemmas.{over-all, from-over}
use Rattle.widget_boxes.specs.{Boxes.IsNarrowBox, Framed.inner_if, Highlights.IsHighlighted, Titles.DoesIf, Titles.InTurn}
use Rattle.widget_boxes.proofs.{InnerLemmas.plain-inside, ApartLemmas.plain-lit}
use Rattle.rtui_drawing.specs.Drawings.{over, DrawsAll}
use Rattle.rtui_drawing.specs.declared.cut.Cut.TheVariants.{First}
use Rattle.rtui_drawing.proofs.{Laws.IsNarrowDrawing, DrawingLemmas.if-narrow, DrawingLemmas.draws-plain}
use Rattle.widget_list.specs.Items.{is_selected_at}
use Rattle.widget_table.specs.{declared.table.Table.Table as TableData, declared.cell.Cell.Cell, declared.row.Row.Row}
use Rattle.widget_table.specs.{declared.state.TableState.TableState}
use Rattle.widget_table.specs.Rows.{PlacedRow, stacked_rows, rows_area, footer_area, cells_area, below, full_height}
use Rattle.widget_table.specs.Tables.{styled_text, cells_drawing, symbol_drawing, symbol_if, row_drawing, rows_drawing}
use Rattle.widget_table.specs.Tables.{outer_drawing, Highlights, selected_row_area, selected_column, placed_rows}
use Rattle.widget_table.specs.Tables.{symbol_columns, ShowsBody, ShowsTableParts, ShowsTable, RendersTable}
use Rattle.widget_table.specs.Tables.{HasNarrowRows, HasNarrowCells}

-- each grapheme of a text takes one column, if there is one
abbrev IfNarrow : Option TextData → Type 0
IfNarrow o = IfSome o (EachTextGrapheme TakesOneColumn)

abbrev IsNarrowCell : Cell → Type 0
IsNarrowCell cell = EachTextGrapheme TakesOneColumn cell.content

cells-narrow : (columns : List Rect) (cells : List Cell) → All IsNarrowCell cells → IsNarrowDrawing (cells_drawing columns cells)
cells-narrow [] cells all = tt
cells-narrow (column ∷ columns) [] all = tt
cells-narrow (column ∷ columns) (cell ∷ cells) all = (
  (tt, All-head IsNarrowCell cell cells all),
  cells-narrow columns cells (All-tail IsNarrowCell cell cells all),
)

symbol-narrow : (o : Option TextData) (n : ℕ) (style : Style) → IfNarrow o → IsNarrowDrawing (symbol_drawing o n style)
symbol-narrow None n style narrow = tt
symbol-narrow (Some text) n style narrow = if-narrow (nat_lt 0 n) (over (First n) (styled_text style text)) (tt, narrow)

row-narrow : (o : Option TextData) (n : ℕ) (columns : List Rect) (row : Row) → IfNarrow o → HasNarrowCells row
    → IsNarrowDrawing (row_drawing o n columns row)
row-narrow o n columns row symbol cells =
    (tt, (symbol-narrow o n row.style symbol, cells-narrow columns row.cells.items cells))

outer-narrow : (columns : List Rect) (o : Option Row) (r : Rect) → IfSome o HasNarrowCells
    → IsNarrowDrawing (outer_drawing columns o r)
outer-narrow columns None r narrow = tt
outer-narrow columns (Some row) r narrow = row-narrow None 0 columns row tt narrow

-- highlights keep cells plain
lit-narrow : (style : Style) (r : Rect) (old new : BufferData) → IsHighlighted r style old new → IsPlainFrom 0 old → IsPlainFrom 0 new
lit-narrow style r old new is plain =
    from-over old new is.area (plain-lit style r old new is old.area (over-all old plain))

highlights-narrow : (t : TableData) (row column : Option Rect) (place r : Rect) (old new : BufferData)
    → Highlights t row column place r old new → IsPlainFrom 0 old → IsPlainFrom 0 new
highlights-narrow t None None place r old new same plain = rw same plain
highlights-narrow t (Some row) None place r old new is plain =
    lit-narrow t.row_highlight_style (intersected r row) old new is plain
highlights-narrow t None (Some column) place r old new is plain =
    lit-narrow t.column_highlight_style (intersected (intersected r place) column) old new is plain
highlights-narrow t (Some row) (Some column) place r old new is plain =
    let more = is.second in
    lit-narrow t.cell_highlight_style (intersected (intersected r row) column) more.between new more.second
    (lit-narrow t.column_highlight_style (intersected (intersected r place) column) is.between more.between more.first
    (lit-narrow t.row_highlight_style (intersected r row) old is.between is.first plain))

symbol-if : (is_selected : Bool) (o : Option TextData) → IfNarrow o → IfNarrow (symbol_if is_selected o)
symbol-if true o narrow = narrow
symbol-if false o narrow = tt

module _ (t : TableData) (symbol : IfNarrow t.highlight_symbol) (selected : Option ℕ) (n : ℕ) (columns : List Rect) where
  rows-narrow : (k : ℕ) (r : Rect) (rows : List Row) → All HasNarrowCells rows
      → IsNarrowDrawing (rows_drawing t selected n columns (stacked_rows k r rows))
  rows-narrow k r [] all = tt
  rows-narrow k r (row ∷ rows) all = by-test (r.height == 0)
      (rows-narrow (k + 1) (below (full_height row) r) rows (All-tail HasNarrowCells row rows all))
    where
      by-test : (stop : Bool) → IsNarrowDrawing (rows_drawing t selected n columns (stacked_rows (k + 1)
          (below (full_height row) r) rows))
          → IsNarrowDrawing (rows_drawing t selected n columns (if stop then [] else record {
            row = row;
            number = k;
            area = cells_area row r;
          } ∷ stacked_rows (k + 1) (below (full_height row) r) rows))
      by-test true narrow = tt
      by-test false narrow = (
        row-narrow (symbol_if (is_selected_at selected k) t.highlight_symbol) n columns row
            (symbol-if (is_selected_at selected k) t.highlight_symbol symbol) (All-head HasNarrowCells row rows all),
        narrow,
      )

module _ (t : TableData) (u : TableState) (n : ℕ) (columns : List Rect) (place r : Rect) (narrow : HasNarrowRows t) where
  abbrev rows : List PlacedRow
  rows = placed_rows t u place

  body-narrow : (old new : BufferData) → IsPlainFrom 0 old → ShowsBody t u n columns place r old new → IsPlainFrom 0 new
  body-narrow old new plain = by-test (not (length t.rows.items == 0))
    where
      by-test : (some : Bool) → DoesIf some (InTurn (DrawsAll (rows_drawing t u.selected n columns rows) r)
          (Highlights t (selected_row_area u.selected rows) (selected_column u.selected_column columns) place r)) old new
          → IsPlainFrom 0 new
      by-test true is =
          highlights-narrow t (selected_row_area u.selected rows) (selected_column u.selected_column columns) place r is.between new
          is.second
          (draws-plain (rows_drawing t u.selected n columns rows) r old is.between
          (rows-narrow t narrow.symbol u.selected n columns u.offset place (drop u.offset t.rows.items)
          (All-drop HasNarrowCells u.offset t.rows.items narrow.rows)) plain is.first)
      by-test false same = rw same plain

parts-narrow : (t : TableData) (u : TableState) (columns : List Rect) (r : Rect) (old new : BufferData) → HasNarrowRows t
    → IsPlainFrom 0 old → ShowsTableParts t u columns r old new → IsPlainFrom 0 new
parts-narrow t u columns r old new narrow plain is =
    let foot = footer_area t.header t.footer r in
    let headed = draws-plain (outer_drawing columns t.header r) r old is.headed (outer-narrow columns t.header r narrow.header) plain
    is.header in
    draws-plain (outer_drawing columns t.footer foot) r is.filled new (outer-narrow columns t.footer foot narrow.footer)
    (body-narrow t u (symbol_columns t (is_some u.selected) r) columns (rows_area t.header t.footer r) r narrow is.headed is.filled
    headed is.body) is.footer

pub table-keeps : (t : TableData) (s u : TableState) (area : Rect) (old new : BufferData) → IfSome t.block IsNarrowBox
    → HasNarrowRows t → IsPlainFrom 0 old → RendersTable t s u area old new → IsPlainFrom 0 new
table-keeps t s u area old new box narrow plain is =
    let r = inner_if t.block (intersected area old.area) in
    plain-inside t.style t.block (ShowsTable t) s u area old new box plain (λ framed cells shows.
    parts-narrow t u shows.columns r framed new narrow cells shows.parts) is
