-- What a table draws, and what it makes of its state.
use Rattle.std.specs.Prelude.{◌≡◌, ℕ, Bool, true, false, ◌+◌, ◌-◌, ◌/◌, ◌==◌, nat_lt, not, zero, suc, min, max, List, []}
use Rattle.std.specs.Prelude.{◌∷◌, length, drop, replicate, Option, Some, None, is_some, if◌then◌else◌}
use Rattle.std.specs.Prelude.{slice_get, All, IfSome}
use Rattle.std.specs.{Option.option_or}
use Rattle.ratatui_core.specs.Layout.{Rect, LayoutData, default_layout, inner, IsSplit}
use Rattle.ratatui_core.specs.declared.layout.Constraint.{Constraint}
use Rattle.ratatui_core.specs.declared.layout.Constraint.TheVariants.{Length}
use Rattle.ratatui_core.specs.declared.layout.Direction.TheVariants.{Horizontal}
use Rattle.ratatui_core.specs.declared.layout.Spacing.TheVariants.{Space}
use Rattle.ratatui_core.specs.declared.layout.Flex.TheVariants as flex
use Rattle.ratatui_core.specs.Layout.{intersected}
use Rattle.ratatui_core.specs.{Style.Style, Style.new_style, Text.TextData, Text.widest, Buffer.BufferData}
use Rattle.ratatui_core.specs.Text.{TakesOneColumn, EachTextGrapheme}
use Rattle.widget_boxes.specs.{Framed.RendersStateInFrame, Highlights.IsHighlighted, Apart.IsShowableText}
use Rattle.widget_boxes.specs.Titles.{InTurn, DoesIf}
use Rattle.rtui_drawing.specs.declared.cut.Cut.TheVariants.{First, Within}
use Rattle.rtui_drawing.specs.Drawings.{Drawing, nothing, over, ◌before◌, draw_if, put_style, put_text, DrawsAll}
use Rattle.widget_list.specs.Items.{has_mark_columns, is_selected_at}
use Rattle.widget_list.specs.declared.list.HighlightSpacing.TheVariants.{WhenSelected}
use Rattle.widget_table.specs.{declared.table.Table.Table as TableData, declared.cell.Cell.Cell}
use Rattle.widget_table.specs.{declared.row.Row.Row, declared.state.TableState.TableState}
use Rattle.widget_table.specs.Rows.{PlacedRow, stacked_rows, rows_area, footer_area, cells_area, cells_at}
use Rattle.widget_table.specs.Rows.{IsRowOffset}

-- a table of these rows in columns of these widths, a column apart, without header, footer, box, styles and
-- highlight symbol
pub record IsNewTable (rows : List Row) (widths : List Constraint) (t : TableData) : Type 0 where
  pub rows_are : t.rows.items ≡ rows
  pub widths_are : t.widths.items ≡ widths
  pub no_header : t.header ≡ None
  pub no_footer : t.footer ≡ None
  pub apart : t.column_spacing ≡ 1
  pub no_box : t.block ≡ None
  pub unstyled : t.style ≡ new_style
  pub unstyled_row : t.row_highlight_style ≡ new_style
  pub unstyled_column : t.column_highlight_style ≡ new_style
  pub unstyled_cell : t.cell_highlight_style ≡ new_style
  pub no_symbol : t.highlight_symbol ≡ None
  pub spaced : t.highlight_spacing ≡ WhenSelected
  pub from_left : t.flex ≡ flex.Start

-- a text in a style, over all of an area
abbrev pub styled_text : Style → TextData → Drawing
styled_text style text = put_style style before put_text text

-- how many columns a table has: as many as the row, header or footer of most cells has cells
abbrev pub most_cells : List Row → ℕ
most_cells [] = 0
most_cells (row ∷ rows) = max (length row.cells.items) (most_cells rows)

abbrev pub cells_if : Option Row → ℕ
cells_if None = 0
cells_if (Some row) = length row.cells.items

abbrev pub column_count : TableData → ℕ
column_count t = max (most_cells t.rows.items) (max (cells_if t.header) (cells_if t.footer))

-- the same width for each of so many columns
abbrev pub same_widths : ℕ → ℕ → List Constraint
same_widths count width = replicate count (Length (width / max count 1))

-- the widths of the columns in so many columns of the screen: if none are given they are all the same
abbrev pub table_widths : TableData → ℕ → List Constraint
table_widths t width =
    if length t.widths.items == 0 then same_widths (column_count t) width else t.widths.items

-- columns of these widths, as far apart and placed as the table says
abbrev pub layout_of : TableData → List Constraint → LayoutData
layout_of t widths = record default_layout {
  direction = Horizontal;
  constraints = widths;
  flex = t.flex;
  spacing = Space t.column_spacing;
}

abbrev pub columns_layout : TableData → ℕ → LayoutData
columns_layout t width = layout_of t (table_widths t width)

-- how many columns stay free for the highlight symbol
abbrev pub symbol_width : Option TextData → ℕ
symbol_width None = 0
symbol_width (Some text) = widest text.lines

abbrev pub symbol_columns : TableData → Bool → Rect → ℕ
symbol_columns t is_selected r =
    if has_mark_columns t.highlight_spacing is_selected then min (symbol_width t.highlight_symbol) r.width
    else 0

-- an area without its first columns
abbrev pub without_columns : ℕ → Rect → Rect
without_columns n r = record r { x = r.x + n; width = r.width - n }

-- the columns of a table over an area: they share what so many columns of the symbol leave
abbrev pub AreColumns : TableData → ℕ → Rect → List Rect → Type 0
AreColumns t n r columns =
    let l = columns_layout t r.width in IsSplit l (inner (without_columns n r) l.margin) columns

-- the cells of a row, each where its column meets the row; a cell without a column isn't shown
abbrev pub cells_drawing : List Rect → List Cell → Drawing
cells_drawing [] cells = nothing
cells_drawing (column ∷ columns) [] = nothing
cells_drawing (column ∷ columns) (cell ∷ cells) =
    over (Within column) (styled_text cell.style cell.content) before cells_drawing columns cells

-- the highlight symbol in the first columns of a row
abbrev pub symbol_drawing : Option TextData → ℕ → Style → Drawing
symbol_drawing None n style = nothing
symbol_drawing (Some text) n style = draw_if (nat_lt 0 n) (over (First n) (styled_text style text))

-- a row: its style, the symbol if it has it, and its cells
abbrev pub row_drawing : Option TextData → ℕ → List Rect → Row → Drawing
row_drawing symbol n columns row =
    put_style row.style
    before symbol_drawing symbol n row.style
    before cells_drawing columns row.cells.items

-- some rows, of which one may be selected
abbrev pub symbol_if : Bool → Option TextData → Option TextData
symbol_if true symbol = symbol
symbol_if false symbol = None

abbrev pub rows_drawing : TableData → Option ℕ → ℕ → List Rect → List PlacedRow → Drawing
rows_drawing t selected n columns [] = nothing
rows_drawing t selected n columns (p ∷ ps) =
    let symbol = symbol_if (is_selected_at selected p.number) t.highlight_symbol in
    over (Within p.area) (row_drawing symbol n columns p.row) before rows_drawing t selected n columns ps

-- the header or the footer
abbrev pub outer_drawing : List Rect → Option Row → Rect → Drawing
outer_drawing columns None r = nothing
outer_drawing columns (Some row) r = over (Within (cells_area row r)) (row_drawing None 0 columns row)

-- the area of the selected row, if it is one of these, and the selected column, if there is one
abbrev pub area_if : Bool → Rect → Option Rect
area_if true r = Some r
area_if false r = None

abbrev pub selected_row_area : Option ℕ → List PlacedRow → Option Rect
selected_row_area selected [] = None
selected_row_area selected (p ∷ ps) =
    option_or (area_if (is_selected_at selected p.number) p.area) (selected_row_area selected ps)

abbrev pub selected_column : Option ℕ → List Rect → Option Rect
selected_column None columns = None
selected_column (Some k) columns = slice_get columns k

-- The highlights, as far as an area has them: over the selected row, over the selected column where rows
-- stand, and where they meet. None changes the columns that wide symbols cover.
abbrev pub Highlights : TableData → Option Rect → Option Rect → Rect → Rect → BufferData → BufferData → Type 0
Highlights t None None place r old new = new ≡ old
Highlights t (Some row) None place r old new = IsHighlighted (intersected r row) t.row_highlight_style old new
Highlights t None (Some column) place r old new =
    IsHighlighted (intersected (intersected r place) column) t.column_highlight_style old new
Highlights t (Some row) (Some column) place r old new =
    InTurn (IsHighlighted (intersected r row) t.row_highlight_style)
    (InTurn (IsHighlighted (intersected (intersected r place) column) t.column_highlight_style)
    (IsHighlighted (intersected (intersected r row) column) t.cell_highlight_style)) old new

-- the rows of a table over their area, from the state's first one on, and the highlights over them
abbrev pub placed_rows : TableData → TableState → Rect → List PlacedRow
placed_rows t u r = stacked_rows u.offset r (drop u.offset t.rows.items)

-- the selected row stands in the area with all rows of its cells
pub record IsShownWhole (t : TableData) (u : TableState) (r : Rect) (selected : ℕ) : Type 0 where
  pub area : Rect
  pub stands : selected_row_area u.selected (placed_rows t u r) ≡ Some area
  pub whole : area.height ≡ cells_at t.rows.items selected

-- what stands where rows do: the rows, and the highlights over them; nothing without rows
abbrev pub ShowsBody : TableData → TableState → ℕ → List Rect → Rect → Rect → BufferData → BufferData → Type 0
ShowsBody t u n columns place r =
    let rows = placed_rows t u place in
    let row = selected_row_area u.selected rows in
    DoesIf (not (length t.rows.items == 0)) (InTurn (DrawsAll (rows_drawing t u.selected n columns rows) r)
    (Highlights t row (selected_column u.selected_column columns) place r))

-- what stands in an area: the header, the rows with the highlights, and the footer
pub record ShowsTableParts (t : TableData) (u : TableState) (columns : List Rect) (r : Rect)
    (old new : BufferData) : Type 0 where
  pub headed : BufferData
  pub filled : BufferData
  pub header : DrawsAll (outer_drawing columns t.header r) r old headed
  pub body : let n = symbol_columns t (is_some u.selected) r in
      ShowsBody t u n columns (rows_area t.header t.footer r) r headed filled
  pub footer : DrawsAll (outer_drawing columns t.footer (footer_area t.header t.footer r)) r filled new

-- a number, but at most the last one of so many; none of none
abbrev pub within_count : ℕ → Option ℕ → Option ℕ
within_count zero number = None
within_count (suc last) None = None
within_count (suc last) (Some n) = Some (min n last)

-- The state after a table was shown with so many rows of the screen for its rows: the selection is at most
-- the last row and the last column, and the first row is such that the selected one is in view.
pub record IsNextState (t : TableData) (height : ℕ) (s u : TableState) : Type 0 where
  pub selected : u.selected ≡ within_count (length t.rows.items) s.selected
  pub selected_column : u.selected_column ≡ within_count (column_count t) s.selected_column
  pub offset : IsRowOffset t.rows.items height u.selected s.offset u.offset

-- a table over an area: its columns, and what it draws
pub record ShowsTable (t : TableData) (s u : TableState) (r : Rect) (old new : BufferData) : Type 0 where
  pub state : IsNextState t (rows_area t.header t.footer r).height s u
  pub columns : List Rect
  pub are_columns : AreColumns t (symbol_columns t (is_some u.selected) r) r columns
  pub parts : ShowsTableParts t u columns r old new

-- a table in its style and its box, over the part of an area that a buffer has
abbrev pub RendersTable : TableData → TableState → TableState → Rect → BufferData → BufferData → Type 0
RendersTable t = RendersStateInFrame t.style t.block (ShowsTable t)

-- each grapheme of the cells of a row takes one column
abbrev pub HasNarrowCells : Row → Type 0
HasNarrowCells row = All (λ cell. EachTextGrapheme TakesOneColumn cell.content) row.cells.items

-- each grapheme that a table shows inside its box takes one column
pub record HasNarrowRows (t : TableData) : Type 0 where
  pub rows : All HasNarrowCells t.rows.items
  pub header : IfSome t.header HasNarrowCells
  pub footer : IfSome t.footer HasNarrowCells
  pub symbol : IfSome t.highlight_symbol (EachTextGrapheme TakesOneColumn)

-- a screen can show the cells of a row
abbrev pub HasShowableCells : Row → Type 0
HasShowableCells row = All (λ cell. IsShowableText cell.content) row.cells.items

-- a screen can show all that a table shows inside its box
pub record HasShowableRows (t : TableData) : Type 0 where
  pub rows : All HasShowableCells t.rows.items
  pub header : IfSome t.header HasShowableCells
  pub footer : IfSome t.footer HasShowableCells
  pub symbol : IfSome t.highlight_symbol IsShowableText

-- a table without a state of its own: from the first row on, nothing selected
abbrev pub RendersTableFresh : TableData → Rect → BufferData → BufferData → Type 0
RendersTableFresh t area old new =
    (last : TableState) × RendersTable t (record {
      offset = 0;
      selected = None;
      selected_column = None;
    }) last area old new
