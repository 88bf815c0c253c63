-- What rendering spans, lines and texts makes of a buffer.
use Rattle.std.specs.Prelude.{ℕ, ◌+◌, ◌<◌, ◌≤◌, ◌≡◌, ◌==◌, List, [], Option, Some, None, map, take, drop}
use Rattle.std.specs.Prelude.{if◌then◌else◌, slice_index_or, All}
use Rattle.std.specs.Str.{IsAscii}
use Rattle.rtui_geometry.specs.{declared.position.Position.Position, declared.rect.Rect.Rect}
use Rattle.rtui_geometry.specs.{Rect.HasPosition, Rect.intersected}
use Rattle.rtui_layout.specs.declared.alignment.HorizontalAlignment.{HorizontalAlignment}
use Rattle.rtui_cell.specs.{declared.cell.Cell.Cell, Cell.styled}
use Rattle.rtui_text.specs.Text.{SpanData, LineData, TextData, line_of}
use Rattle.rtui_buffer.specs.BufferData.{BufferData, cell_index, cell_in, HasRow}
use Rattle.rtui_style.specs.Style.{new_style}
use Rattle.rtui_buffer.specs.Painting.{KeepsUnmarked}
use Rattle.rtui_buffer.specs.PaintedText.{pieces_at, AreShort, PaintsFront, PaintsPieces}
use Rattle.rtui_widgets.specs.{Span.span_rendered, Span.IsShortSpan, Line.line_rendered, Line.IsShortLine}

-- row k of a rectangle in a buffer, from left to right
abbrev pub area_row : Rect → ℕ → BufferData → List Cell
area_row r k s = take r.width (drop (cell_index s.area (record { x = r.x; y = r.y + k })) s.cells)

-- no cell outside an area changed
pub record ChangesWithin (area : Rect) (old new : BufferData) : Type 0 where
  pub same_area : new.area ≡ old.area
  pub same_room : new.room ≡ old.room
  pub outside : (p : Position) → HasPosition old.area p → ¬ (HasPosition area p)
      → cell_in new p ≡ cell_in old p

-- each row of an area, as far as the buffer has it, is what f makes of it, no cell got an option or a flag,
-- and nothing else changed
pub record RendersRows (area : Rect) (f : ℕ → List Cell → List Cell) (old new : BufferData) : Type 0 where
  pub within : ChangesWithin area old new
  pub rows : (k : ℕ) → k < (intersected area old.area).height
      → area_row (intersected area old.area) k new ≡ f k (area_row (intersected area old.area) k old)
  pub marks : KeepsUnmarked old.cells new.cells

-- f in the first row, and nothing in the others
abbrev pub in_first_row : (List Cell → List Cell) → ℕ → List Cell → List Cell
in_first_row f k row = if k == 0 then f row else row

abbrev pub RendersSpan : SpanData → Rect → BufferData → BufferData → Type 0
RendersSpan span area = RendersRows area (in_first_row (span_rendered span.style span.content))

abbrev pub RendersLine : LineData → Rect → BufferData → BufferData → Type 0
RendersLine line area = RendersRows area (in_first_row (line_rendered line.alignment line))

-- the first alignment if there is one, else the second
abbrev pub alignment_or : Option HorizontalAlignment → Option HorizontalAlignment → Option HorizontalAlignment
alignment_or None other = other
alignment_or (Some alignment) other = Some alignment

-- line k of a text, or one without spans if it has none
abbrev pub text_line : TextData → ℕ → LineData
text_line text k = slice_index_or text.lines k (line_of [])

-- row k of a text: under its line, aligned as the text is if the line doesn't say how, the style of the whole
abbrev pub text_row : TextData → ℕ → List Cell → List Cell
text_row text k row =
    let line = text_line text k in
    line_rendered (alignment_or line.alignment text.alignment) line (map (styled text.style) row)

abbrev pub RendersText : TextData → Rect → BufferData → BufferData → Type 0
RendersText text area = RendersRows area (text_row text)

-- the first row of an area
abbrev pub first_row : Rect → Rect
first_row area = record area { height = 1 }

-- the first row of an area lies in the buffer's, and doesn't begin left of it
pub record HasFirstRow (area : Rect) (s : BufferData) : Type 0 where
  pub row : HasRow s.area area.y
  pub column : s.area.x ≤ area.x

-- a text painted from the corner of an area on, in at most the area's columns
abbrev pub RendersStr : List ℕ → Rect → BufferData → BufferData → Type 0
RendersStr text area old = PaintsPieces (record { x = area.x; y = area.y })
    (pieces_at old.area area.x area.width new_style text) old

-- such a painting that was refused memory: a front of the text's graphemes is painted
abbrev pub LeavesStr : List ℕ → Rect → BufferData → BufferData → Type 0
LeavesStr text area old = PaintsFront (record { x = area.x; y = area.y })
    (pieces_at old.area area.x area.width new_style text) old

-- row k of a text takes no memory in these many columns
abbrev pub IsShortRow : TextData → ℕ → ℕ → Type 0
IsShortRow text columns k =
    let line = text_line text k in
    IsShortLine (alignment_or line.alignment text.alignment) line columns

-- What is rendered takes no memory if no symbol does that it puts into a column: of a span, a line or a text
-- in each row of the area, as far as the buffer has it; of a text that is painted in each piece.
abbrev pub RendersShortSpan : SpanData → Rect → BufferData → Type 0
RendersShortSpan span area s = IsShortSpan (intersected area s.area).width span.content

abbrev pub RendersShortLine : LineData → Rect → BufferData → Type 0
RendersShortLine line area s = IsShortLine line.alignment line (intersected area s.area).width

abbrev pub RendersShortText : TextData → Rect → BufferData → Type 0
RendersShortText text area s = let r = intersected area s.area in (k : ℕ) → k < r.height
    → IsShortRow text r.width k

abbrev pub RendersShortStr : List ℕ → Rect → BufferData → Type 0
RendersShortStr text area s = AreShort (pieces_at s.area area.x area.width new_style text)

-- each span is a text of ASCII
abbrev pub AreAscii : List SpanData → Type 0
AreAscii spans = All (λ span. IsAscii span.content) spans
