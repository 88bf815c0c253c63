-- What a rendering leaves that is refused memory: all that was rendered before, and a front of the graphemes
-- of the text in which it was.
use Rattle.std.specs.Prelude.{◌≡◌, ℕ, ◌-◌, ◌<◌, ◌++◌, true, List, [], ◌∷◌, Option, length, map, take, drop}
use Rattle.unicode_segmentation.specs.Grapheme.{graphemes}
use Rattle.rtui_geometry.specs.{declared.rect.Rect.Rect, Rect.intersected}
use Rattle.rtui_layout.specs.declared.alignment.HorizontalAlignment.{HorizontalAlignment}
use Rattle.rtui_style.specs.declared.Style.{Style}
use Rattle.rtui_cell.specs.{declared.cell.Cell.Cell, Cell.styled}
use Rattle.rtui_text.specs.{Text.SpanData, Text.LineData, Text.TextData, Widths.line_width}
use Rattle.rtui_buffer.specs.{BufferData.BufferData, Painting.KeepsUnmarked}
use Rattle.rtui_widgets.specs.Span.{showing, graphemes_rendered}
use Rattle.rtui_widgets.specs.Line.{Part, parts, parts_then, after_first, columns_before}
use Rattle.rtui_widgets.specs.Rendering.{area_row, first_row, text_line, text_row, alignment_or}
use Rattle.rtui_widgets.specs.Rendering.{ChangesWithin}

-- a front of the graphemes of a text that show in these columns
pub record IsShownFront (columns : ℕ) (text : List ℕ) (front : List (List ℕ)) : Type 0 where
  pub others : List (List ℕ)
  pub is : showing columns (graphemes true text) ≡ front ++ others

-- a row with a front of a text's graphemes, and no more
pub record HasFrontOfSpan (style : Style) (text : List ℕ) (old new : List Cell) : Type 0 where
  pub front : List (List ℕ)
  pub is : IsShownFront (length old) text front
  pub row : new ≡ graphemes_rendered style front old

-- how many of these columns the parts leave
abbrev pub columns_left : ℕ → List Part → ℕ
columns_left n [] = n
columns_left n (p ∷ ps) = columns_left (n - p.indent - p.width) ps

-- a row with some of these parts, with a front of the graphemes of the next one, and no more
pub record HasFrontOfParts (ps : List Part) (old new : List Cell) : Type 0 where
  pub whole : List Part
  pub next : Part
  pub others : List Part
  pub are : ps ≡ whole ++ next ∷ others
  pub front : List (List ℕ)
  pub is : IsShownFront (columns_left (length old) whole - next.indent) next.content front
  pub row : new ≡ parts_then (after_first next.indent (graphemes_rendered next.style front)) whole old

-- a row with the style of a line that is aligned so, and with a front of the line's graphemes
pub record HasFrontOfLine (alignment : Option HorizontalAlignment) (line : LineData)
    (old new : List Cell) : Type 0 where
  pub left : List Cell
  pub parts_are : HasFrontOfParts
      (parts (columns_before alignment (line_width line.spans - length old)) line.spans)
      (drop (columns_before alignment (length old - line_width line.spans)) (map (styled line.style) old))
      left
  pub row : new ≡ take (columns_before alignment (length old - line_width line.spans))
      (map (styled line.style) old) ++ left

-- row k of a text with a front of its line's graphemes
abbrev pub HasFrontOfRow : TextData → ℕ → List Cell → List Cell → Type 0
HasFrontOfRow text k row =
    let line = text_line text k in
    HasFrontOfLine (alignment_or line.alignment text.alignment) line (map (styled text.style) row)

-- only the first row of an area changed, as f says, and no mark was set
pub record LeavesFirstRow (f : List Cell → List Cell → Type 0) (area : Rect)
    (old new : BufferData) : Type 0 where
  pub marks : KeepsUnmarked old.cells new.cells
  pub within : ChangesWithin (first_row (intersected area old.area)) old new
  pub row : f (area_row (intersected area old.area) 0 old) (area_row (intersected area old.area) 0 new)

-- a span that was refused memory
abbrev pub LeavesSpan : SpanData → Rect → BufferData → BufferData → Type 0
LeavesSpan span = LeavesFirstRow (HasFrontOfSpan span.style span.content)

-- a line that was refused memory
abbrev pub LeavesLine : LineData → Rect → BufferData → BufferData → Type 0
LeavesLine line = LeavesFirstRow (HasFrontOfLine line.alignment line)

-- a text that was refused memory in row `at`: the rows above are rendered, those below stay, and no mark was
-- set
pub record LeavesText (text : TextData) (area : Rect) (old new : BufferData) : Type 0 where
  pub marks : KeepsUnmarked old.cells new.cells
  pub within : ChangesWithin area old new
  pub at : ℕ
  pub there : at < (intersected area old.area).height
  pub above : (k : ℕ) → k < at → area_row (intersected area old.area) k new ≡ text_row text k
      (area_row (intersected area old.area) k old)
  pub row : HasFrontOfRow text at (area_row (intersected area old.area) at old)
      (area_row (intersected area old.area) at new)
  pub below : (k : ℕ) → at < k → k < (intersected area old.area).height
      → area_row (intersected area old.area) k new ≡ area_row (intersected area old.area) k old
