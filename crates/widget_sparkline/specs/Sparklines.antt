-- A sparkline: what each of its cells shows.
use Rattle.std.specs.Prelude.{◌≡◌, ℕ, ◌+◌, ◌-◌, ◌≤◌, min, max, List, [], ◌∷◌, length, codes, Option, Some}
use Rattle.std.specs.Prelude.{None, unwrap_or, slice_get, All}
use Rattle.ratatui_core.specs.Layout.{Rect, Position}
use Rattle.ratatui_core.specs.Style.{Style, new_style, patch}
use Rattle.ratatui_core.specs.Symbols.{bar_texts, bar_levels}
use Rattle.ratatui_core.specs.Buffer.{BufferData, Cell, styled, with_symbol, text_width, IsShort}
use Rattle.widget_boxes.specs.Framed.{IsShortFrame}
use Rattle.rtui_drawing.specs.{declared.cut.Cut.Cut, Drawings.Drawing, Drawings.over, Drawings.put_change}
use Rattle.rtui_drawing.specs.declared.cut.Cut.TheVariants.{First, Last}
use Rattle.rtui_inside.specs.Inside.{DrawsInside, LeavesInside}
use Rattle.widget_sparkline.specs.{declared.sparkline.Sparkline.Sparkline}
use Rattle.widget_sparkline.specs.{declared.sparkline.SparklineBar.SparklineBar}
use Rattle.widget_sparkline.specs.declared.sparkline.RenderDirection.{RenderDirection}
use Rattle.widget_sparkline.specs.declared.sparkline.RenderDirection.TheVariants.{LeftToRight, RightToLeft}
use Rattle.widget_sparkline.specs.Levels.{row_from_below, eighths_of_value, left_at, level_text}

-- a sparkline of these bars from the left, without box and styles, with blanks for absent values
pub record IsNewSparkline (bars : List SparklineBar) (s : Sparkline) : Type 0 where
  pub bars_are : s.bars.items ≡ bars
  pub no_box : s.block ≡ None
  pub unstyled : s.style ≡ new_style
  pub unstyled_absent : s.absent_value_style ≡ new_style
  pub blank : s.absent_value_symbol.now ≡ codes " "
  pub by_values : s.max ≡ None
  pub levels : bar_texts s.bar_set ≡ bar_levels
  pub from_left : s.direction ≡ LeftToRight

-- the greatest value of some bars
abbrev pub greatest_value : List SparklineBar → ℕ
greatest_value [] = 0
greatest_value (bar ∷ bars) = max (unwrap_or bar.value 0) (greatest_value bars)

-- the value that is as high as the area
abbrev pub greatest_of : Sparkline → ℕ
greatest_of s = unwrap_or s.max (greatest_value s.bars.items)

-- how many columns the bars take, and the part of an area in which they stand
abbrev pub bars_width : Sparkline → Rect → ℕ
bars_width s r = min (length s.bars.items) r.width

abbrev pub bars_cut : RenderDirection → ℕ → Cut
bars_cut LeftToRight n = First n
bars_cut RightToLeft n = Last n

-- the number of the bar in a column
abbrev pub number_of_column : RenderDirection → Rect → ℕ → ℕ
number_of_column LeftToRight r x = x - r.x
number_of_column RightToLeft r x = r.width - (x - r.x + 1)

-- a cell of a bar: the symbol of what shows of its value there, or of an absent one, in the sparkline's style
-- under its own
abbrev pub mark_of_value : Sparkline → ℕ → ℕ → Option ℕ → ℕ → List ℕ
mark_of_value s greatest rows None row = s.absent_value_symbol.now
mark_of_value s greatest rows (Some value) row =
    level_text s.bar_set (left_at (eighths_of_value value greatest rows) row)

abbrev pub style_of_bar : Sparkline → Option ℕ → Option Style → Style
style_of_bar s None style = s.absent_value_style
style_of_bar s (Some value) style = unwrap_or style new_style

abbrev pub cell_of_bar : Sparkline → ℕ → Rect → ℕ → Option SparklineBar → Cell → Cell
cell_of_bar s greatest r row None c = c
cell_of_bar s greatest r row (Some bar) c =
    styled (patch s.style (style_of_bar s bar.value bar.style))
    (with_symbol (mark_of_value s greatest r.height bar.value row) c)

abbrev pub bar_cell_of : Sparkline → ℕ → Rect → Position → Cell → Cell
bar_cell_of s greatest r p =
    cell_of_bar s greatest r (row_from_below r p.y)
    (slice_get s.bars.items (number_of_column s.direction r p.x))

-- no symbol of it takes memory
pub record HasShortLevels (s : Sparkline) : Type 0 where
  pub absent : IsShort s.absent_value_symbol.now
  pub levels : All IsShort (bar_texts s.bar_set)

-- the bars of a sparkline in an area, each in a column
abbrev pub sparkline_drawing : Sparkline → Rect → Drawing
sparkline_drawing s r = over (bars_cut s.direction (bars_width s r))
    (put_change (bar_cell_of s (greatest_of s) r) (λ _ _. HasShortLevels s))

-- A sparkline over the part of an area that a buffer has: its box, and inside the bars. Its style is theirs
-- alone. Nothing outside the area changes.
abbrev pub RendersSparkline : Sparkline → Rect → BufferData → BufferData → Type 0
RendersSparkline s = DrawsInside new_style s.block (sparkline_drawing s)

-- what a refusal leaves: if the box takes no memory it stands
abbrev pub LeavesSparkline : Sparkline → Rect → BufferData → BufferData → Type 0
LeavesSparkline s = LeavesInside new_style s.block (sparkline_drawing s)

pub record IsShortSparkline (s : Sparkline) (b : BufferData) : Type 0 where
  pub frame : IsShortFrame s.block b
  pub marks : HasShortLevels s

-- each symbol of it takes at most one column
pub record HasNarrowBars (s : Sparkline) : Type 0 where
  pub absent : text_width s.absent_value_symbol.now ≤ 1
  pub levels : All (λ symbol. text_width symbol ≤ 1) (bar_texts s.bar_set)
