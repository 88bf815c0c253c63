-- What private functions promise one another: what is made of some cells of a grid, and how the bars of a
-- sparkline are drawn: their styles first, and then their symbols.
use Rattle.std.specs.Prelude.{◌≡◌, ℕ, ◌+◌, ◌-◌, ◌*◌, ◌/◌, ◌<◌, ◌≤◌, List, length, nat_lt, if◌then◌else◌, Bool, not, ◌||◌}
use Rattle.std.specs.Prelude.{Option, Some, None, is_some, slice_get, min, max}
use Rattle.ratatui_core.specs.Layout.{Rect, Position}
use Rattle.ratatui_core.specs.Style.{patch}
use Rattle.ratatui_core.specs.Buffer.{Cell, cell_at, styled, with_symbol}
use Rattle.widget_sparkline.specs.declared.{fill.Block.Block, sparkline.Sparkline.Sparkline}
use Rattle.widget_sparkline.specs.declared.{sparkline.SparklineBar.SparklineBar}
use Rattle.widget_sparkline.specs.Levels.{row_from_below}
use Rattle.widget_sparkline.specs.Sparklines.{number_of_column, mark_of_value, style_of_bar}

-- column a of row b is one of a block
pub record IsOfBlock (k : Block) (a b : ℕ) : Type 0 where
  pub left : k.left ≤ a
  pub right : a < k.right
  pub top : k.top ≤ b
  pub bottom : b < k.bottom

-- in rows of w cells: only those of a block may have changed
pub record KeepsAround (w : ℕ) (k : Block) (old new : List Cell) : Type 0 where
  pub count : length new ≡ length old
  pub outside : (a b : ℕ) → a < w → ¬ (IsOfBlock k a b) → cell_at w new a b ≡ cell_at w old a b

-- in rows of w cells: each cell of a block is what f makes of it in its row, and all else is as before
pub record MakesBlock (w : ℕ) (k : Block) (f : ℕ → Cell → Cell) (old new : List Cell) : Type 0 where
  pub inside : (a b : ℕ) → a < w → IsOfBlock k a b → cell_at w new a b ≡ f b (cell_at w old a b)
  pub around : KeepsAround w k old new

-- a block lies in rows of w cells, of which a list has so many
pub record IsBlockIn (w : ℕ) (k : Block) (cells : List Cell) : Type 0 where
  pub ordered : k.left ≤ k.right
  pub upright : k.top ≤ k.bottom
  pub columns : k.right ≤ w
  pub rows : (b : ℕ) → b < k.bottom → b * w + w ≤ length cells

-- where the part of an area stands among the cells of a buffer's own area
abbrev pub block_of : Rect → Rect → Block
block_of part own = record {
  left = part.x - own.x;
  right = part.x - own.x + part.width;
  top = part.y - own.y;
  bottom = part.y - own.y + part.height;
}

-- The row of a grid that is a row of the screen, on which the grid's first row is another one; the first row of
-- a block, if it lies above that, and the one after its last one, if it lies below.
abbrev pub row_among : ℕ → ℕ → Block → ℕ
row_among y first k = min (max (y - first) k.top) k.bottom

-- how many rows of an area a bar leaves that is so many eighths of a cell high
abbrev pub unfilled_rows : ℕ → Rect → ℕ
unfilled_rows eighths r = r.height - min (eighths / 8) r.height

-- the row of a block in which the level of a bar shows in an area, and the row below it
abbrev pub level_row : ℕ → Rect → ℕ → Block → ℕ
level_row eighths r = row_among (r.y + (unfilled_rows eighths r - 1))

abbrev pub full_row : ℕ → Rect → ℕ → Block → ℕ
full_row eighths r = row_among (r.y + unfilled_rows eighths r)

-- the text of a row: one above a row, one from it on before another row, and one from there on
abbrev pub text_of_row : ℕ → ℕ → List ℕ → List ℕ → List ℕ → ℕ → List ℕ
text_of_row m n above within below b =
    if nat_lt b m then above else if nat_lt b n then within else below

-- a cell with the text of its row
abbrev pub marked_row : ℕ → ℕ → List ℕ → List ℕ → List ℕ → ℕ → Cell → Cell
marked_row m n above within below b = with_symbol (text_of_row m n above within below b)

-- whether a bar has another style than its sparkline: one of its own, or that of absent values
abbrev pub has_own_style : SparklineBar → Bool
has_own_style bar = not (is_some bar.value) || is_some bar.style

-- a column of an area
abbrev pub column_of : Rect → ℕ → Rect
column_of r x = record r { x = x; width = 1 }

-- an area has some columns of another one, in all of its rows
pub record IsColumnsOf (part r : Rect) : Type 0 where
  pub y : part.y ≡ r.y
  pub height : part.height ≡ r.height

-- the bar of a column, if there is one
abbrev pub bar_of_column : Sparkline → Rect → ℕ → Option SparklineBar
bar_of_column s r x = slice_get s.bars.items (number_of_column s.direction r x)

-- a cell in the style of a bar, and with the symbol of a bar; as it is without a bar
abbrev pub style_over : Sparkline → Option SparklineBar → Cell → Cell
style_over s None c = c
style_over s (Some bar) c = styled (patch s.style (style_of_bar s bar.value bar.style)) c

abbrev pub mark_over : Sparkline → ℕ → Rect → ℕ → Option SparklineBar → Cell → Cell
mark_over s greatest r y None c = c
mark_over s greatest r y (Some bar) c =
    with_symbol (mark_of_value s greatest r.height bar.value (row_from_below r y)) c

-- cells with the symbols of a bar
abbrev pub bar_mark : Sparkline → ℕ → Rect → SparklineBar → Position → Cell → Cell
bar_mark s greatest r bar p = mark_over s greatest r p.y (Some bar)

-- cells in the styles of their columns' bars, and with their symbols
abbrev pub bar_style_at : Sparkline → Rect → Position → Cell → Cell
bar_style_at s r p = style_over s (bar_of_column s r p.x)

abbrev pub mark_at : Sparkline → ℕ → Rect → Position → Cell → Cell
mark_at s greatest r p = mark_over s greatest r p.y (bar_of_column s r p.x)
