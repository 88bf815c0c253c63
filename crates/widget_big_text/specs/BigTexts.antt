-- A big text: which cell of an area shows which part of which letter.
use Rattle.std.specs.Prelude.{◌≡◌, ℕ, ◌-◌, ◌*◌, ◌/◌, ◌%◌, nat_lt, List, length, Option, Some, None}
use Rattle.std.specs.Prelude.{if◌then◌else◌, unwrap_or, slice_get, encode_utf8, ⊤}
use Rattle.ratatui_core.specs.Layout.{Rect, Position}
use Rattle.ratatui_core.specs.declared.layout.HorizontalAlignment.{HorizontalAlignment}
use Rattle.ratatui_core.specs.declared.layout.HorizontalAlignment.TheVariants.{Left, Center, Right}
use Rattle.ratatui_core.specs.Style.{Style, new_style, patch}
use Rattle.ratatui_core.specs.Text.{LineData, GraphemeData, line_graphemes}
use Rattle.ratatui_core.specs.Buffer.{BufferData, Cell, styled, with_symbol}
use Rattle.widget_boxes.specs.Framed.{IsShortFrame}
use Rattle.rtui_drawing.specs.Drawings.{Drawing, put_change}
use Rattle.rtui_inside.specs.Inside.{DrawsInside, LeavesInside}
use Rattle.widget_big_text.specs.declared.big_text.BigText.{BigText}
use Rattle.widget_big_text.specs.declared.pixel_size.PixelSize.{PixelSize}
use Rattle.widget_big_text.specs.declared.pixel_size.PixelSize.TheVariants.{Full}
use Rattle.widget_big_text.specs.Glyphs.{glyph_of, letter_columns, letter_rows, letter_mark}

-- a big text of these lines from the left, whose pixels are cells, without a box and a style
pub record IsNewBigText (lines : List LineData) (t : BigText) : Type 0 where
  pub lines_are : t.lines.items ≡ lines
  pub no_box : t.block ≡ None
  pub unstyled : t.style ≡ new_style
  pub whole_cells : t.pixel_size ≡ Full
  pub from_left : t.alignment ≡ Left

-- a cell of a letter, so many columns and rows from its corner: the symbol that shows its pixels, and over the
-- cell the letter's style
abbrev pub showing_letter : PixelSize → List ℕ → Style → ℕ → ℕ → Cell → Cell
showing_letter size rows style x y c = styled style (with_symbol (encode_utf8 (letter_mark size rows x y)) c)

-- the same of a letter at the corner of an area
abbrev pub big_letter_cell : PixelSize → List ℕ → Style → Rect → Position → Cell → Cell
big_letter_cell size rows style r p = showing_letter size rows style (p.x - r.x) (p.y - r.y)

-- the letters of a line, each a grapheme in its style
abbrev pub letters_of : BigText → LineData → List GraphemeData
letters_of t line = line_graphemes (patch t.style line.style) line.spans

-- a cell of a letter, if there is one; else it stays
abbrev pub cell_of_letter : PixelSize → Option GraphemeData → ℕ → ℕ → Cell → Cell
cell_of_letter size None x y c = c
cell_of_letter size (Some g) x y c = showing_letter size (glyph_of g.symbol) g.style x y c

-- a cell so many columns and rows from where letters begin, one beside the other
abbrev pub letters_cell : PixelSize → List GraphemeData → ℕ → ℕ → Cell → Cell
letters_cell size gs x =
    let n = letter_columns size in cell_of_letter size (slice_get gs (x / n)) (x % n)

-- before which column a line's letters begin, of so many that they leave free
abbrev pub start_by : HorizontalAlignment → ℕ → ℕ
start_by Left free = 0
start_by Center free = free / 2
start_by Right free = free

-- the same, by the line's own alignment, if it has one, or by that of the text
abbrev pub line_start : BigText → LineData → ℕ → ℕ
line_start t line width =
    let taken = length (letters_of t line) * letter_columns t.pixel_size in
    start_by (unwrap_or line.alignment t.alignment) (width - taken)

-- a cell so many columns and rows from the corner of a line, if there is one
abbrev pub cell_of_line : BigText → Option LineData → ℕ → ℕ → ℕ → Cell → Cell
cell_of_line t None width x y c = c
cell_of_line t (Some line) width x y c =
    let start = line_start t line width in
    if nat_lt x start then c else letters_cell t.pixel_size (letters_of t line) (x - start) y c

-- a cell of an area in which lines stand one below the other
abbrev pub lines_cell : BigText → List LineData → Rect → Position → Cell → Cell
lines_cell t lines r p =
    let n = letter_rows t.pixel_size in let y = p.y - r.y in
    cell_of_line t (slice_get lines (y / n)) r.width (p.x - r.x) (y % n)

-- a cell of a big text over an area
abbrev pub big_cell : BigText → Rect → Position → Cell → Cell
big_cell t = lines_cell t t.lines.items

-- all that a big text draws in an area; it takes no memory
abbrev pub big_text_drawing : BigText → Rect → Drawing
big_text_drawing t r = put_change (big_cell t r) (λ _ _. ⊤)

-- A big text over the part of an area that a buffer has: its box, and inside its letters. Its style is theirs
-- alone. Nothing outside the area changes.
abbrev pub RendersBigText : BigText → Rect → BufferData → BufferData → Type 0
RendersBigText t = DrawsInside new_style t.block (big_text_drawing t)

-- what a refusal leaves: if the box takes no memory it stands
abbrev pub LeavesBigText : BigText → Rect → BufferData → BufferData → Type 0
LeavesBigText t = LeavesInside new_style t.block (big_text_drawing t)

-- it takes no memory if its box takes none
abbrev pub IsShortBigText : BigText → BufferData → Type 0
IsShortBigText t = IsShortFrame t.block
