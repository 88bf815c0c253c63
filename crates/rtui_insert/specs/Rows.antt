-- Rows of a buffer, and what a drawing of them does to a screen.
use Rattle.std.specs.Prelude.{◌≡◌, ℕ, ◌+◌, ◌-◌, ◌^◌, ◌<◌, ◌≤◌, min, true, false, ◌&&◌, Bool, not, List, map}
use Rattle.std.specs.Prelude.{count_by}
use Rattle.rtui_cell.specs.{declared.cell.Cell.Cell, Cell.empty_cell, Cell.width_of, Cell.is_skipped}
use Rattle.rtui_cell.specs.{Equality.is_same, Look.empty_look, Grid.Update}
use Rattle.rtui_diff.specs.Cells.{is_always, cell, cell_at}
use Rattle.rtui_buffer.specs.{BufferData.BufferData, BufferData.IsEmptied, RowsDiff.part_cells}
use Rattle.rtui_buffer.specs.{RowsDiff.IsRowsDiff}
use Rattle.rtui_backend.specs.Screen.{Screen, Draws}

-- an update so many rows further down, at most in the last row that there can be
abbrev pub lowered_update : ℕ → Update → Update
lowered_update by u = record u { y = min (u.y + by) 65535 }

-- what differs from the first n rows of a former buffer to n rows of the next one, from row i on, was drawn
-- at row y
pub record DrawsRows (former next : BufferData) (i n y : ℕ) (old new : Screen) : Type 0 where
  pub updates : List Update
  pub diff : IsRowsDiff former 0 next i n updates
  pub drawn : Draws old (map (lowered_update y) updates) new

-- an empty buffer as wide as another one, of n rows at least
pub record IsBlankFor (n : ℕ) (s blank : BufferData) : Type 0 where
  pub width : s.area.width ≡ blank.area.width
  pub rows : n ≤ blank.area.height
  pub empty : IsEmptied blank.area blank

-- the cells of a buffer's first row are skipped, so that any screen shows it
pub record IsUnknownRow (s : BufferData) : Type 0 where
  pub row : 1 ≤ s.area.height
  pub skipped : (a : ℕ) → a < s.area.width → is_skipped (cell_at s.area.width s.cells a 0) ≡ true
  pub narrow : (a : ℕ) → a < s.area.width → width_of (cell_at s.area.width s.cells a 0) ≤ 1

-- a buffer's first row was drawn on the screen's first one, whatever stood there
pub record DrawsFirstRow (s : BufferData) (old new : Screen) : Type 0 where
  pub former : BufferData
  pub unknown : IsUnknownRow former
  pub width : s.area.width ≡ former.area.width
  pub drawn : DrawsRows former s 0 1 0 old new

-- n rows of a buffer fit on a screen at row y: it has the buffer's width, and they end above its bottom
pub record RowsFit (s : BufferData) (n y : ℕ) (screen : Screen) : Type 0 where
  pub width : s.area.width ≡ screen.width
  pub bottom : y + n ≤ screen.height

-- n rows of the screen from row y on are blank
pub record IsBlankAt (n y : ℕ) (s : Screen) : Type 0 where
  pub at : (a b : ℕ) → a < s.width → b < n → s.grid a (y + b) ≡ empty_look

-- a cell that is neither skipped nor empty
abbrev pub is_nonempty : Cell → Bool
is_nonempty c = not (is_skipped c) && not (is_same empty_cell c)

-- how many such cells n rows of a buffer have, from row i on
abbrev pub nonempty_cells : BufferData → ℕ → ℕ → ℕ
nonempty_cells s i n = count_by is_nonempty (part_cells s i n)

-- no cell of a buffer is wide, and none is drawn each time
pub record IsNarrowBuffer (s : BufferData) : Type 0 where
  pub narrow : (k : ℕ) → width_of (cell s.cells k) ≤ 1
  pub changing : (k : ℕ) → is_always (cell s.cells k) ≡ false

-- at most n items were drawn, as far as they are counted
abbrev pub WritesAtMost : ℕ → Screen → Screen → Type 0
WritesAtMost n old new = old.written + n < 2 ^ 64 - 1 → new.written ≤ old.written + n
