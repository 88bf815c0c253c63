-- Plain cells under the bars of a sparkline.
use Rattle.std.proofs.Common.{ℕ, ◌≤◌, Option, Some, None, IfSome, slice_get}
use Rattle.ratatui_core.specs.{Layout.Rect, Layout.intersected, Style.new_style, Style.patch}
use Rattle.ratatui_core.specs.Buffer.{BufferData, Cell, with_symbol, text_width, IsPlain, IsPlainFrom}
use Rattle.ratatui_core.proofs.BufferLemmas.{plain-styled, plain-with_symbol}
use Rattle.widget_boxes.specs.{Boxes.IsNarrowBox, Framed.inner_if}
use Rattle.rtui_inside.proofs.InsideLemmas.{inside-plain}
use Rattle.widget_sparkline.specs.{declared.sparkline.Sparkline.Sparkline, declared.sparkline.SparklineBar.SparklineBar}
use Rattle.widget_sparkline.specs.Levels.{row_from_below, left_at, eighths_of_value}
use Rattle.widget_sparkline.specs.Sparklines.{mark_of_value, style_of_bar, cell_of_bar, greatest_of, number_of_column}
use Rattle.widget_sparkline.specs.Sparklines.{sparkline_drawing, RendersSparkline, HasNarrowBars}
use Rattle.widget_sparkline.proofs.LevelLemmas.{level-any}

module _ (s : Sparkline) (narrow : HasNarrowBars s) where
  mark-narrow : (greatest rows : ℕ) (value : Option ℕ) (row : ℕ) → text_width (mark_of_value s greatest rows value row) ≤ 1
  mark-narrow greatest rows None row = narrow.absent
  mark-narrow greatest rows (Some value) row = level-any (λ symbol. text_width symbol ≤ 1) s.bar_set
      (left_at (eighths_of_value value greatest rows) row) narrow.levels

  bar-plain : (greatest : ℕ) (r : Rect) (row : ℕ) (bar : Option SparklineBar) (c : Cell) → IsPlain c
      → IsPlain (cell_of_bar s greatest r row bar c)
  bar-plain greatest r row None c is = is
  bar-plain greatest r row (Some bar) c is =
      plain-styled (patch s.style (style_of_bar s bar.value bar.style))
      (with_symbol (mark_of_value s greatest r.height bar.value row) c)
      (plain-with_symbol (mark_of_value s greatest r.height bar.value row) c is (mark-narrow greatest r.height bar.value row))

pub sparkline-plain : (s : Sparkline) (area : Rect) (old new : BufferData) → IfSome s.block IsNarrowBox → HasNarrowBars s
    → IsPlainFrom 0 old → RendersSparkline s area old new → IsPlainFrom 0 new
sparkline-plain s area old new box narrow plain =
    let r = inner_if s.block (intersected area old.area) in
    inside-plain new_style s.block area old new box plain (sparkline_drawing s) (λ p c cell.
    bar-plain s narrow (greatest_of s) r (row_from_below r p.y) (slice_get s.bars.items (number_of_column s.direction r p.x)) c cell)
