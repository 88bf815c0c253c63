-- A line in a row of cells.
use Rattle.std.specs.Prelude.{ℕ, ⊤, ◌-◌, ◌/◌, ◌==◌, ◌++◌, nat_le, true, List, [], ◌∷◌, Option, Some, None}
use Rattle.std.specs.Prelude.{length, map, take, drop, sum_by, if◌then◌else◌}
use Rattle.std.specs.List.{concat}
use Rattle.unicode_segmentation.specs.Grapheme.{graphemes}
use Rattle.rtui_layout.specs.declared.alignment.HorizontalAlignment.{HorizontalAlignment}
use Rattle.rtui_layout.specs.declared.alignment.HorizontalAlignment.TheVariants.{Left, Center, Right}
use Rattle.rtui_style.specs.declared.Style.{Style}
use Rattle.rtui_cell.specs.{declared.cell.Cell.Cell, Cell.styled, Width.text_columns}
use Rattle.rtui_text.specs.{Text.SpanData, Text.LineData, Widths.span_width, Widths.line_width}
use Rattle.rtui_widgets.specs.Span.{span_rendered, IsShortSpan}

-- what shows of a span: after an indent a text, which takes this many columns
pub record Part : Type 0 where
  pub indent : ℕ
  pub width : ℕ
  pub style : Style
  pub content : List ℕ

-- the longest list of last graphemes whose columns sum to at most the room
unfoldable pub last_fitting : ℕ → List (List ℕ) → List (List ℕ)
last_fitting room [] = []
last_fitting room (g ∷ gs) = if nat_le (sum_by text_columns (g ∷ gs)) room then g ∷ gs else last_fitting room
    gs

-- the end of a span that fits the room, indented by what is missing
abbrev pub end_of : ℕ → SpanData → Part
end_of room span =
    let gs = last_fitting room (graphemes true span.content) in
    let width = sum_by text_columns gs in
    record { indent = room - width; width = width; style = span.style; content = concat gs }

-- a span without its first columns
abbrev pub part_of : ℕ → SpanData → Part
part_of skip span =
    if skip == 0 then record {
      indent = 0;
      width = span_width span;
      style = span.style;
      content = span.content;
    }
    else end_of (span_width span - skip) span

-- spans in a row without their first columns: those that end there are left out, and so is each span of no
-- width
unfoldable pub parts : ℕ → List SpanData → List Part
parts skip [] = []
parts skip (span ∷ spans) =
    let others = parts (skip - span_width span) spans in
    if nat_le (span_width span) skip then others else part_of skip span ∷ others

-- a row whose first n columns stay, and whose others are what f makes of them
abbrev pub after_first : ℕ → (List Cell → List Cell) → List Cell → List Cell
after_first n f row = take n row ++ f (drop n row)

-- a row with these parts, each in the columns that are left after the one before, and with what f makes of
-- those left after all
unfoldable pub parts_then : (List Cell → List Cell) → List Part → List Cell → List Cell
parts_then f [] row = f row
parts_then f (p ∷ ps) row =
    after_first p.indent (λ left. after_first p.width (parts_then f ps)
    (span_rendered p.style p.content left)) row

-- a row with these parts, and nothing more
abbrev pub parts_rendered : List Part → List Cell → List Cell
parts_rendered ps = parts_then (λ row. row) ps

-- how many of the columns that are too many stand before what is aligned so
abbrev pub columns_before : Option HorizontalAlignment → ℕ → ℕ
columns_before None excess = 0
columns_before (Some Left) excess = 0
columns_before (Some Center) excess = excess / 2
columns_before (Some Right) excess = excess

-- a row with a line that is aligned so: indented if it is shorter, its first columns skipped if it is longer;
-- a line of no width leaves the row as it is
unfoldable pub line_rendered : Option HorizontalAlignment → LineData → List Cell → List Cell
line_rendered alignment line row =
    let width = line_width line.spans in
    let columns = length row in
    if columns == 0 then row else if width == 0 then row
    else after_first (columns_before alignment (columns - width))
    (parts_rendered (parts (columns_before alignment (width - columns)) line.spans))
    (map (styled line.style) row)

-- no part takes memory in the columns that are left for it
unfoldable pub AreShortParts : ℕ → List Part → Type 0
AreShortParts columns [] = ⊤
AreShortParts columns (p ∷ ps) = IsShortSpan (columns - p.indent) p.content
    × AreShortParts (columns - p.indent - p.width) ps

-- a line that is aligned so takes no memory in a row of these many columns
abbrev pub IsShortLine : Option HorizontalAlignment → LineData → ℕ → Type 0
IsShortLine alignment line columns =
    let width = line_width line.spans in
    AreShortParts (columns - columns_before alignment (columns - width))
    (parts (columns_before alignment (width - columns)) line.spans)
