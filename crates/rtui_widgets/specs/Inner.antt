-- What private functions promise one another.
use Rattle.std.specs.Prelude.{ℕ, ◌+◌, ◌*◌, ◌<◌, ◌≤◌, ◌≡◌, ◌⊎◌, List, length, take, drop, Bool, ◌-◌}
use Rattle.std.specs.Prelude.{◌||◌, ◌&&◌, nat_lt, Some, if◌then◌else◌, slice_index_or, slice_set}
use Rattle.rtui_cell.specs.{declared.cell.Cell.Cell, Cell.empty_cell, Cell.styled, Symbol.appended}
use Rattle.rtui_cell.specs.{Width.text_width}
use Rattle.rtui_diff.specs.Cells.{cell}
use Rattle.rtui_style.specs.declared.Style.{Style}
use Rattle.rtui_buffer.specs.Painted.{emptied}
use Rattle.rtui_widgets.specs.{Span.goes_to, declared.line.Part.Part}
use Rattle.rtui_widgets.specs.Line as line
use Rattle.rtui_geometry.specs.{declared.rect.Rect.Rect, Rect.bottom_edge}

-- where the rows stand: the place of the first one's first cell, how many cells each row has, how far it is
-- from one row to the next, and how many rows there are
pub record Rows : Type 0 where
  pub start : ℕ
  pub width : ℕ
  pub stride : ℕ
  pub count : ℕ

abbrev pub rows_from : ℕ → ℕ → ℕ → ℕ → Rows
rows_from start width stride count = record { start = start; width = width; stride = stride; count = count }

-- the place of a row's first cell
abbrev pub place : Rows → ℕ → ℕ
place r k = r.start + k * r.stride

-- the cells of a row
abbrev pub cells_of_row : Rows → ℕ → List Cell → List Cell
cells_of_row r k cells = take r.width (drop (place r k) cells)

-- the place is one of no row
abbrev pub IsOutside : Rows → ℕ → Type 0
IsOutside r i = (k : ℕ) → k < r.count → (i < place r k) ⊎ (place r k + r.width ≤ i)

-- only the rows changed
pub record KeepsOthers (r : Rows) (old new : List Cell) : Type 0 where
  pub length_stays : length new ≡ length old
  pub others : (i : ℕ) → IsOutside r i → cell new i ≡ cell old i

-- each row is what f makes of it, and all else is as before
pub record MakesRows (r : Rows) (f : ℕ → List Cell → List Cell) (old new : List Cell) : Type 0 where
  pub keeps : KeepsOthers r old new
  pub rows : (k : ℕ) → k < r.count → cells_of_row r k new ≡ f k (cells_of_row r k old)

-- the rows before one are what f makes of them, that one is as g says, and those after it stay
pub record LeavesRows (r : Rows) (f : ℕ → List Cell → List Cell) (g : ℕ → List Cell → List Cell → Type 0)
    (old new : List Cell) : Type 0 where
  pub at : ℕ
  pub there : at < r.count
  pub above : (k : ℕ) → k < at → cells_of_row r k new ≡ f k (cells_of_row r k old)
  pub row : g at (cells_of_row r at old) (cells_of_row r at new)
  pub below : (k : ℕ) → at < k → k < r.count → cells_of_row r k new ≡ cells_of_row r k old

-- a cell with a text as its symbol, in a style
abbrev pub with_grapheme : Style → List ℕ → Cell → Cell
with_grapheme style g c = styled style (record c { symbol = Some g })

-- a cell with a text appended to its symbol, in a style
abbrev pub with_appended : Style → List ℕ → Cell → Cell
with_appended style g c = styled style (record c { symbol = Some (appended c.symbol g) })

-- the symbol that the next grapheme at column x makes of its column's: itself, or it after what stands there
abbrev pub next_symbol : Bool → ℕ → List ℕ → List Cell → List ℕ
next_symbol is_first x g row =
    if is_first || (nat_lt 0 x && nat_lt 0 (text_width g)) then g else appended
    (slice_index_or row (goes_to x g) empty_cell).symbol g

-- the next grapheme at column x: set, or appended if only graphemes of no width came before or it has no
-- width itself; and empty cells in the other columns that it takes
unfoldable pub with_next : Bool → ℕ → Style → List ℕ → List Cell → List Cell
with_next is_first x style g row =
    let at = goes_to x g in
    let c = slice_index_or row at empty_cell in
    let new = if is_first || (nat_lt 0 x && nat_lt 0 (text_width g)) then with_grapheme style g c
    else with_appended style g c in
    emptied (x + 1) (text_width g - 1) (slice_set row at new)

-- a part of a span as the code has it
pub record IsPart (p : line.Part) (q : Part) : Type 0 where
  pub indent : q.indent ≡ p.indent
  pub width : q.width ≡ p.width
  pub content : q.content.now ≡ p.content

-- a row's part of a rectangle
abbrev pub row_part : Rect → ℕ → Rect
row_part r y = record { x = r.x; y = y; width = r.width; height = 1 }

-- the rectangle has this row
pub record IsRowOfArea (r : Rect) (y : ℕ) : Type 0 where
  pub top : r.y ≤ y
  pub bottom : y < bottom_edge r
