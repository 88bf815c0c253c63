-- A terminal over one row of text, and rows of text above it.
use Rattle.std.specs.Prelude.{◌≡◌, ℕ, ◌+◌, ◌-◌, min, List, [], ◌∷◌, ◌++◌, Option}
use Rattle.rtui_geometry.specs.{declared.position.Position.Position, declared.rect.Rect.Rect}
use Rattle.rtui_buffer.specs.{BufferData.BufferData, BufferData.IsEmptied, Shown.ShowsBuffer}
use Rattle.rtui_cell.specs.{Look.Look, Grid.Grid}
use Rattle.rtui_diff.specs.Shows.{RowAgrees}
use Rattle.rtui_widgets.specs.Rendering.{HasFirstRow, RendersStr}
use Rattle.rtui_backend.specs.Screen.{Screen, size_of, screen_area, rows_above}
use Rattle.rtui_viewport.specs.{Viewports.IsInline, Areas.IsBlankBelow}
use Rattle.rtui_insert.specs.Rows.{WritesAtMost}
use Rattle.rtui_terminal.specs.{TerminalData.TerminalData, InStep.IsInStep, InStep.KeepsAroundViewport}
use Rattle.rtui_terminal.specs.{InStep.rows_over}
use Rattle.rtui_terminal.specs.{Rendered.IsRendered, Writing.cursor_placed}

-- the area of a row of this width
abbrev pub row_area : ℕ → ℕ → Rect
row_area width y = record { x = 0; y = y; width = width; height = 1 }

-- the buffer is an empty one on which a text was painted
abbrev pub IsPaintedText : List ℕ → BufferData → Type 0
IsPaintedText text = IsRendered (RendersStr text)

-- a row of looks that agrees with a text painted on an empty row
pub record IsRowOf (width : ℕ) (text : List ℕ) (row : List Look) : Type 0 where
  pub sheet : BufferData
  pub over : sheet.area ≡ row_area width 0
  pub painted : IsPaintedText text sheet
  pub agrees : RowAgrees width sheet.cells 0 row

-- the grid shows what rendering over an area makes of an empty buffer
pub record ShowsOver (renders : Rect → BufferData → BufferData → Type 0) (area : Rect) (g : Grid)
    : Type 0 where
  pub sheet : BufferData
  pub over : sheet.area ≡ area
  pub painted : IsRendered renders sheet
  pub shown : ShowsBuffer sheet g

-- a screen's cursor is as a frame leaves it: hidden, or visible at a place
abbrev pub HasCursor : Option Position → Screen → Type 0
HasCursor cursor s = s ≡ cursor_placed cursor s

-- how a closure renders in the first row of a buffer, if the buffer has it
abbrev pub RendersRow : (Rect → BufferData → BufferData → Type 0) → Rect → BufferData → BufferData → Type 0
RendersRow renders area old new = HasFirstRow area old → renders area old new

-- what a closure leaves that renders a text over the whole of an empty buffer
pub record FillsRow (text : List ℕ) (area : Rect) (sheet : BufferData) : Type 0 where
  pub before : BufferData
  pub empty : IsEmptied area before
  pub renders : RendersRow (RendersStr text) before.area before sheet

module _ {B : Type 0} (screen : B → Screen) where
  -- the terminal is in step over one row as wide as the screen, whose size it knows, and its buffer to paint
  -- on is empty
  pub record IsOverRow (t : TerminalData B) : Type 0 where
    pub kind : IsInline t.viewport
    pub known : screen_area (screen t.backend) ≡ t.last_known_area
    pub row : t.viewport_area ≡ row_area (screen t.backend).width t.viewport_area.y
    pub in_step : IsInStep screen t
    pub current : IsEmptied t.viewport_area t.current

  -- the viewport shows what was rendered over it, and the cursor is at its place there, if it has one
  pub record ShowsRow (renders : Rect → BufferData → BufferData → Type 0) (place : Rect → Option Position)
      (t : TerminalData B) : Type 0 where
    pub row : ShowsOver renders t.viewport_area (screen t.backend).grid
    pub cursor : HasCursor (place t.viewport_area) (screen t.backend)

  -- the viewport was drawn over, by at most one item for each column, and all else stays
  pub record DrawsRow (renders : Rect → BufferData → BufferData → Type 0) (place : Rect → Option Position)
      (s t : TerminalData B) : Type 0 where
    pub over : IsOverRow t
    pub shown : ShowsRow renders place t
    pub keeps : KeepsAroundViewport screen s t
    pub most : WritesAtMost (screen s.backend).width (screen s.backend) (screen t.backend)

  -- a text was inserted: the terminal is still over one row, which went down by one if there was room,
  -- exactly one row, the text's, came to those above, and if the rows below were blank, they still are
  pub record InsertsRow (text : List ℕ) (s t : TerminalData B) : Type 0 where
    pub over : IsOverRow t
    pub size : size_of (screen t.backend) ≡ size_of (screen s.backend)
    pub top : t.viewport_area.y ≡ min (s.viewport_area.y + 1) ((screen s.backend).height - 1)
    pub row : List Look
    pub painted : IsRowOf (screen s.backend).width text row
    pub above : rows_over screen t ≡ rows_over screen s ++ row ∷ []
    pub below : IsBlankBelow s.viewport_area (screen s.backend)
        → IsBlankBelow t.viewport_area (screen t.backend)

  -- a start on a blank screen: the terminal is over one row, the cursor's, the rows above are those that were
  -- there, and the rows below are blank
  pub record StartsOverRow (b : B) (t : TerminalData B) : Type 0 where
    pub over : IsOverRow t
    pub size : size_of (screen t.backend) ≡ size_of (screen b)
    pub top : t.viewport_area.y ≡ (screen b).cursor_y
    pub above : rows_over screen t ≡ rows_above (screen b) (screen b).cursor_y
    pub below : IsBlankBelow t.viewport_area (screen t.backend)
