-- Where two buffers differ first, where a screen differs first from lines, and a screen as a buffer.
use Rattle.std.specs.Prelude.{◌≡◌, ℕ, ◌<◌, List, length, Option, Some, None, slice_index_or}
use Rattle.rtui_cell.specs.declared.cell.Cell.{Cell}
use Rattle.ratatui_core.specs.Layout.{Position}
use Rattle.ratatui_core.specs.Text.{LineData, widest}
use Rattle.ratatui_core.specs.Buffer.{BufferData, IsEqual, empty_cell, position_of, place_position}
use Rattle.ratatui_core.specs.Backend.{Screen, grid_of, screen_area}
use Rattle.rtui_buffer.specs.Line.{line_at, line_row}
use Rattle.rtui_backend.specs.{CellGrid.look_at, ScreenLines.RowHasLine, ScreenLines.symbols_in}

-- the cells of this number, row by row, are equal
abbrev pub HaveEqualCell : BufferData → BufferData → ℕ → Type 0
HaveEqualCell s t k = IsEqual (slice_index_or s.cells k empty_cell) (slice_index_or t.cells k empty_cell)

-- the cells of this number, at this position, differ, and those before it don't; the areas are the same
pub record DifferFirstAt (s t : BufferData) (p : Position) (i : ℕ) : Type 0 where
  pub areas : s.area ≡ t.area
  pub inside : i < length s.cells
  pub position : p ≡ position_of (place_position s.area i)
  pub differs : HaveEqualCell s t i → ⊥
  pub before : (k : ℕ) → k < i → HaveEqualCell s t k

-- the areas differ if there is no position, and else the cells there, and no cell before
abbrev pub DifferAt : BufferData → BufferData → Option Position → Type 0
DifferAt s t None = s.area ≡ t.area → ⊥
DifferAt s t (Some p) = (i : ℕ) × DifferFirstAt s t p i

-- the symbol in a column of a row of cells
abbrev pub symbol_seen : List Cell → ℕ → List ℕ
symbol_seen cells a = (look_at cells a).symbol

-- the symbol in a column of a row of w cells that shows a line
abbrev pub symbol_of_line : ℕ → LineData → ℕ → List ℕ
symbol_of_line w line a = symbol_seen (line_row w line) a

-- row b of a screen has another symbol than the line in column x, and in no column before
pub record RowDiffersFirstAt (line : LineData) (s : Screen) (b x : ℕ) : Type 0 where
  pub inside : x < s.width
  pub differs : symbols_in s b x ≡ symbol_of_line s.width line x → ⊥
  pub before : (a : ℕ) → a < x → symbols_in s b a ≡ symbol_of_line s.width line a

-- as many rows and columns as the lines take, the row of this position differs from its line first there, and
-- no row above it does
pub record LinesDifferFirstAt (lines : List LineData) (s : Screen) (p : Position) : Type 0 where
  pub height : s.height ≡ length lines
  pub width : s.width ≡ widest lines
  pub inside : p.y < s.height
  pub row : RowDiffersFirstAt (line_at lines p.y) s p.y p.x
  pub above : (b : ℕ) → b < p.y → RowHasLine (line_at lines b) s b

-- the size differs if there is no position, and else the symbol there, and none before
abbrev pub LinesDifferAt : List LineData → Screen → Option Position → Type 0
LinesDifferAt lines s None = s.height ≡ length lines → s.width ≡ widest lines → ⊥
LinesDifferAt lines s (Some p) = LinesDifferFirstAt lines s p

-- a buffer is a screen: as many rows and columns, at the corner, and the same look in each column
pub record IsBufferOf (s : Screen) (t : BufferData) : Type 0 where
  pub area : t.area ≡ screen_area s
  pub looks : (a b : ℕ) → a < s.width → b < s.height → grid_of t.area.width t.cells a b ≡ s.grid a b
