-- A paragraph: its rows, and what it changes.
use Rattle.std.specs.Prelude.{◌≡◌, ℕ, ◌+◌, ◌-◌, ◌/◌, ◌==◌, min, length, if◌then◌else◌, nat_lt, false, List}
use Rattle.std.specs.Prelude.{[], ◌∷◌, map, filter, take, drop, Option, Some, None, unwrap_or, All, IfSome}
use Rattle.std.specs.Prelude.{◌^◌}
use Rattle.std.specs.List.{flat_map}
use Rattle.ratatui_core.specs.{Layout.Rect, Layout.EdgesFit, Style.new_style, Style.patch}
use Rattle.ratatui_core.specs.{declared.layout.HorizontalAlignment.HorizontalAlignment}
use Rattle.ratatui_core.specs.Text.{GraphemeData, LineData, TextData, line_graphemes, has_control}
use Rattle.ratatui_core.specs.Text.{EachSpanGrapheme, widest}
use Rattle.ratatui_core.specs.declared.layout.HorizontalAlignment.TheVariants.{Left, Center, Right}
use Rattle.ratatui_core.specs.Buffer.{BufferData, IsPlainFrom, IsSettledBuffer, IsOneGrapheme, Piece, IsShort}
use Rattle.ratatui_core.specs.Buffer.{piece_of, PaintsPieces, text_pieces, position_of}
use Rattle.widget_paragraph.specs.{declared.paragraph.Paragraph.Paragraph, declared.paragraph.Wrap.Wrap}
use Rattle.widget_boxes.specs.{Titles.InTurn, Framed.RendersInFrame, Framed.rows_around_if, Boxes.IsNarrowBox}
use Rattle.widget_boxes.specs.{Framed.IsShortFrame, Framed.columns_around_if}
use Rattle.widget_paragraph.specs.Reflow.{grapheme_columns, columns_taken, fits_row, cut_row, broken_rows}

-- a text without a box, from its first row and column on, cut and aligned to the left
pub record IsNewParagraph (text : TextData) (p : Paragraph) : Type 0 where
  pub text_is : p.text ≡ text
  pub no_box : p.block ≡ None
  pub unstyled : p.style ≡ new_style
  pub cut : p.wrap ≡ None
  pub start : p.scroll ≡ position_of (0, 0)
  pub aligned : p.alignment ≡ Left

-- a row of a paragraph: its graphemes, and how it is aligned
pub record TextRow : Type 0 where
  pub alignment : HorizontalAlignment
  pub graphemes : List GraphemeData

-- a line's alignment, and the paragraph's if it has none
abbrev pub alignment_of : Paragraph → LineData → HorizontalAlignment
alignment_of p line = unwrap_or line.alignment p.alignment

-- the graphemes of a line of a paragraph, without those that have a control character
abbrev pub graphemes_of : Paragraph → LineData → List GraphemeData
graphemes_of p line = line_graphemes (patch p.text.style line.style) line.spans

-- the columns before which a line is cut at the left: only what is aligned to the left is scrolled
abbrev pub columns_scrolled : HorizontalAlignment → ℕ → ℕ
columns_scrolled Left columns = columns
columns_scrolled Center columns = 0
columns_scrolled Right columns = 0

-- graphemes as rows that are aligned so
abbrev pub aligned_row : HorizontalAlignment → List GraphemeData → TextRow
aligned_row alignment gs = record { alignment = alignment; graphemes = gs }

abbrev pub aligned_rows : HorizontalAlignment → List (List GraphemeData) → List TextRow
aligned_rows alignment rows = map (aligned_row alignment) rows

-- a line cut, in a row
abbrev pub cut_line : Paragraph → ℕ → LineData → TextRow
cut_line p width line =
    let alignment = alignment_of p line in
    aligned_row alignment (cut_row width (columns_scrolled alignment p.scroll.x) (graphemes_of p line))

-- the rows of a line that is broken in a width; what is wider than a row is left out
abbrev pub broken_line : Paragraph → ℕ → Wrap → LineData → List TextRow
broken_line p width wrap line =
    aligned_rows (alignment_of p line)
    (broken_rows width wrap.trim (filter (fits_row width) (graphemes_of p line)))

-- the rows of lines, in a width
abbrev pub rows_of_lines : Option Wrap → Paragraph → ℕ → List LineData → List TextRow
rows_of_lines None p width lines = map (cut_line p width) lines
rows_of_lines (Some wrap) p width lines = flat_map (broken_line p width wrap) lines

-- the rows of a paragraph, in a width
abbrev pub paragraph_rows : Paragraph → ℕ → List TextRow
paragraph_rows p width = rows_of_lines p.wrap p width p.text.lines

-- how many rows a paragraph takes in a width, with those of its box
abbrev pub rows_taken : Paragraph → ℕ → ℕ
rows_taken p width = if width == 0 then 0 else min (length (paragraph_rows p width) + rows_around_if p.block)
    (2 ^ 64 - 1)

-- how many columns it needs so that no line of it is broken or cut, with those of its box
abbrev pub columns_needed : Paragraph → ℕ
columns_needed p = min (widest p.text.lines + columns_around_if p.block) (2 ^ 64 - 1)

-- in which column of the room a row of this width begins
abbrev pub indent_of : HorizontalAlignment → ℕ → ℕ → ℕ
indent_of Left width room = 0
indent_of Center width room = room / 2 - width / 2
indent_of Right width room = room - width

-- a grapheme painted in the columns that it takes
abbrev pub PaintsGrapheme : ℕ → ℕ → GraphemeData → BufferData → BufferData → Type 0
PaintsGrapheme x y g old new = PaintsPieces (position_of (x, y))
    (text_pieces (grapheme_columns g) g.style g.symbol) old new

-- graphemes painted from a column of a row on, one after the other
abbrev pub PaintsGraphemes : ℕ → ℕ → List GraphemeData → BufferData → BufferData → Type 0
PaintsGraphemes x y [] old new = new ≡ old
PaintsGraphemes x y (g ∷ gs) old new = InTurn (PaintsGrapheme x y g)
    (PaintsGraphemes (x + grapheme_columns g) y gs) old new

-- the grapheme is one by itself, and has no control character
pub record IsSingleGrapheme (g : GraphemeData) : Type 0 where
  pub one : IsOneGrapheme g.symbol
  pub shows : has_control g.symbol ≡ false

-- the pieces of graphemes: those that take a column
abbrev pub row_pieces : List GraphemeData → List Piece
row_pieces gs = map (λ g. piece_of g.style g.symbol) (filter (λ g. nat_lt 0 (grapheme_columns g)) gs)

-- a row painted in a row of an area
abbrev pub PaintsRow : Rect → ℕ → TextRow → BufferData → BufferData → Type 0
PaintsRow r y row old new = PaintsGraphemes
    (r.x + indent_of row.alignment (columns_taken row.graphemes) r.width) y row.graphemes old new

-- rows painted from a row of an area on, one below the other
abbrev pub PaintsRows : Rect → ℕ → List TextRow → BufferData → BufferData → Type 0
PaintsRows r y [] old new = new ≡ old
PaintsRows r y (row ∷ rows) old new = InTurn (PaintsRow r y row) (PaintsRows r (y + 1) rows) old new

-- the rows of these that an area of this height shows, without the first ones
abbrev pub rows_shown : ℕ → ℕ → List TextRow → List TextRow
rows_shown height skip rows = take height (drop skip rows)

-- a paragraph's text in an area: the rows that it shows
abbrev pub FillsText : Paragraph → Rect → BufferData → BufferData → Type 0
FillsText p r old new = PaintsRows r r.y (rows_shown r.height p.scroll.y (paragraph_rows p r.width)) old new

-- A paragraph over the part of an area that a buffer has: its style, its box, and its text inside. Nothing
-- outside the area changes; and of a buffer of plain cells comes a settled one, if the box is plain.
pub record RendersParagraph (paragraph : Paragraph) (area : Rect) (old new : BufferData) : Type 0 where
  pub frame : RendersInFrame paragraph.style paragraph.block (FillsText paragraph) area old new
  pub settled : EdgesFit old.area → IsPlainFrom 0 old → IfSome paragraph.block IsNarrowBox
      → IsSettledBuffer new

-- no grapheme of a paragraph's lines takes memory
abbrev pub HasShortText : Paragraph → Type 0
HasShortText p = All (λ line. EachSpanGrapheme IsShort line.spans) p.text.lines

-- a paragraph of which no line is broken takes no memory if none of its graphemes does, nor its box
pub record IsShortParagraph (p : Paragraph) (s : BufferData) : Type 0 where
  pub frame : IsShortFrame p.block s
  pub cut : p.wrap ≡ None
  pub text : HasShortText p
