-- A bar chart of narrow texts keeps cells plain.
use Rattle.std.proofs.Common.{ℕ, ◌-◌, ◌<◌, ◌≤◌, Bool, true, false, if◌then◌else◌, nat_lt, ◌==◌, IfSome, not, min}
use Rattle.std.proofs.Common.{◌&&◌, ◌^◌, decimal, List, [], ◌∷◌, All, Option, Some, None, arith, lit<, length}
use Rattle.std.proofs.lemmas.{List.Elements.All-head, List.Elements.All-tail, List.Elements.All-take}
use Rattle.std.proofs.lemmas.{Fmt.decimal_is_IsNumeral, Str.Parse.digit_at}
use Rattle.ratatui_core.specs.Layout.{Rect, Position, intersected}
use Rattle.ratatui_core.specs.{Style.Style, Style.new_style, Style.patch, Text.LineData}
use Rattle.ratatui_core.specs.Text.{ArePrintable, TakesOneColumn, EachLineGrapheme}
use Rattle.ratatui_core.specs.declared.{layout.Direction.Direction}
use Rattle.ratatui_core.specs.declared.layout.Direction.TheVariants.{Horizontal, Vertical}
use Rattle.ratatui_core.specs.Buffer.{BufferData, Cell, text_width, text_columns, IsPlain, IsPlainFrom}
use Rattle.ratatui_core.proofs.BufferLemmas.{plain-styled, plain-with_symbol}
use Rattle.widget_boxes.specs.{Boxes.IsNarrowBox, Framed.inner_if}
use Rattle.rtui_drawing.specs.{Cuts.cut_from, Drawings.Drawing, Drawings.over}
use Rattle.rtui_drawing.specs.declared.cut.Cut.TheVariants.{Rows}
use Rattle.rtui_drawing.proofs.{Laws.IsNarrowDrawing, DrawingLemmas.if-narrow, NarrowLemmas.text-narrow, NarrowLemmas.cut-width}
use Rattle.rtui_inside.proofs.InsideLemmas.{inside-plain, inner-columns}
use Rattle.widget_sparkline.specs.Levels.{left_at, row_from_below}
use Rattle.widget_sparkline.proofs.LevelLemmas.{level-any}
use Rattle.widget_bars.specs.{declared.group.Bar.Bar, declared.group.BarGroup.BarGroup, declared.chart.BarChart.BarChart}
use Rattle.widget_bars.specs.BarAreas.{cells_along, bar_cut, behind_cut, beside_labels}
use Rattle.widget_bars.specs.BarCharts.{chart_cell, long_cell, bar_label, middle_text, text_of_bar, bar_in, bar_step}
use Rattle.widget_bars.specs.BarCharts.{line_if, value_over, long_filled, label_columns, bar_rows, has_bar_labels}
use Rattle.widget_bars.specs.BarCharts.{is_written, chart_eighths}
use Rattle.widget_bars.specs.BarCharts.{group_label, label_of, bars_columns, has_group_labels, shown_bars, fitting_count}
use Rattle.widget_bars.specs.BarCharts.{bars_from, after_bars, behind_bars, groups_from, chart_drawing, RendersBarChart}
use Rattle.widget_bars.specs.BarCharts.{HasNarrowBarTexts, HasNarrowGroupTexts, HasNarrowGroups}

bar-label-narrow : (style : Style) (label : Option LineData) → IfSome label (EachLineGrapheme TakesOneColumn)
    → IsNarrowDrawing (bar_label style label)
bar-label-narrow style None is = tt
bar-label-narrow style (Some line) is = (tt, is)

line-narrow-if : (label : Option LineData) → IfSome label (EachLineGrapheme TakesOneColumn) → IsNarrowDrawing (line_if label)
line-narrow-if None is = tt
line-narrow-if (Some line) is = is

group-label-narrow : (style : Style) (label : Option LineData) (n : ℕ) → IfSome label (EachLineGrapheme TakesOneColumn)
    → IsNarrowDrawing (group_label style label n)
group-label-narrow style None n is = tt
group-label-narrow style (Some line) n is = (tt, is)

module _ (c : BarChart) (narrow : HasNarrowGroups c) where
  tall-cell : (r : Rect) (style : Style) (eighths : ℕ) (p : Position) (cell : Cell) → IsPlain cell
      → IsPlain (chart_cell c.bar_set r style eighths p cell)
  tall-cell r style eighths p cell is =
      let n = left_at eighths (row_from_below r p.y) in
      plain-styled style _ (plain-with_symbol _ cell is (level-any (λ symbol. text_width symbol ≤ 1) c.bar_set n narrow.levels))

  full-or-empty : (is_full : Bool) → text_width (if is_full then c.bar_set.full.now else c.bar_set.empty.now) ≤ 1
  full-or-empty true = narrow.levels 0 [] (lit< tt)
  full-or-empty false = narrow.levels 8 [] (lit< tt)

  lying-cell : (r : Rect) (style : Style) (n : ℕ) (p : Position) (cell : Cell) → IsPlain cell
      → IsPlain (long_cell c.bar_set r style n p cell)
  lying-cell r style n p cell is =
      plain-styled style _ (plain-with_symbol _ cell is (full-or-empty (nat_lt (p.x - r.x) n)))

  bar-narrow : (d : Direction) (bar : Bar) (r : Rect) → HasNarrowBarTexts bar → r.width ≤ 65535
      → IsNarrowDrawing (bar_in d c bar r)
  bar-narrow Vertical bar r texts le =
      let text = text_of_bar bar.value bar.text_value in
      let style = patch c.value_style bar.value_style in
      let eighths = chart_eighths c bar r.height in (
        tall-cell (cut_from (Rows 0 (bar_rows c r.height)) r) (patch c.bar_style bar.style) eighths,
        (
          if-narrow (has_bar_labels c r.height) (bar_label c.label_style bar.label)
              (bar-label-narrow c.label_style bar.label texts.label),
          if-narrow (is_written bar.value (text_columns text) r.width eighths)
              (middle_text style text r.width)
              (text-narrow (min (min (text_columns text) 65535) r.width) style text (omega arith) texts.value),
        ),
      )
  bar-narrow Horizontal bar r texts le =
      let text = text_of_bar bar.value bar.text_value in
      let bars = cut_from (beside_labels (label_columns c)) r in (
        lying-cell bars (patch c.bar_style bar.style) (long_filled c bar r),
        (
          line-narrow-if bar.label texts.label,
          if-narrow (nat_lt 0 bars.width)
              (value_over (patch c.value_style bar.value_style) text (long_filled c bar r) bars.width)
              (text-narrow bars.width new_style text (cut-width (beside_labels (label_columns c)) r le) texts.value, tt),
        ),
      )

  bars-narrow : (r : Rect) (bars : List Bar) → All HasNarrowBarTexts bars → r.width ≤ 65535
      → IsNarrowDrawing (bars_from c r bars)
  bars-narrow r [] texts le = tt
  bars-narrow r (bar ∷ bars) texts le =
      let own = bar_cut c.direction c.bar_width in
      let behind = behind_cut c.direction (bar_step c) in (
        bar-narrow c.direction bar (cut_from own r) (All-head HasNarrowBarTexts bar bars texts) (cut-width own r le),
        bars-narrow (cut_from behind r) bars (All-tail HasNarrowBarTexts bar bars texts) (cut-width behind r le),
      )

  label-narrow : (d : Direction) (group : BarGroup) (n : ℕ) (r : Rect) → IfSome group.label (EachLineGrapheme TakesOneColumn)
      → IsNarrowDrawing (label_of d c group n r)
  label-narrow Vertical group n r is =
      let label = group_label c.label_style group.label (bars_columns c n) in
      if-narrow (has_group_labels c r.height && nat_lt 0 n) (over (Rows (r.height - 1) 1) label)
      (group-label-narrow c.label_style group.label (bars_columns c n) is)
  label-narrow Horizontal group n r is =
      let bars = beside_labels (label_columns c) in
      let width = (cut_from bars r).width in
      if-narrow ((nat_lt 0 c.group_gap && nat_lt (bars_columns c n) r.height) && nat_lt 0 n)
      (over bars (over (Rows (bars_columns c n) 1) (group_label c.label_style group.label width)))
      (group-label-narrow c.label_style group.label width is)

  behind-narrow : (bars : List Bar) (d : Drawing) → IsNarrowDrawing d → IsNarrowDrawing (behind_bars c bars d)
  behind-narrow [] d is = is
  behind-narrow (bar ∷ bars) d is = behind-narrow bars d is

  after-width : (r : Rect) (bars : List Bar) → r.width ≤ 65535 → (after_bars c r bars).width ≤ 65535
  after-width r [] le = le
  after-width r (bar ∷ bars) le =
      let behind = behind_cut c.direction (bar_step c) in after-width (cut_from behind r) bars (cut-width behind r le)

  groups-narrow : (r : Rect) (groups : List BarGroup) → All HasNarrowGroupTexts groups → r.width ≤ 65535
      → IsNarrowDrawing (groups_from c r groups)
  groups-narrow r [] texts le = tt
  groups-narrow r (group ∷ groups) texts le =
      let own = All-head HasNarrowGroupTexts group groups texts in
      let bars = shown_bars c group r in
      let gap = behind_cut c.direction c.group_gap in
      let rest = cut_from gap (after_bars c r bars) in (
        (
          bars-narrow r bars
              (All-take HasNarrowBarTexts (fitting_count c (cells_along c.direction r)) group.bars.items own.bars) le,
          label-narrow c.direction group (length bars) r own.label,
        ),
        behind-narrow bars (over gap (groups_from c rest groups))
            (groups-narrow rest groups (All-tail HasNarrowGroupTexts group groups texts) (cut-width gap (after_bars c r bars) (after-width r bars le))),
      )

pub chart-plain : (c : BarChart) (area : Rect) (old new : BufferData) → IfSome c.block IsNarrowBox → HasNarrowGroups c
    → IsPlainFrom 0 old → RendersBarChart c area old new → IsPlainFrom 0 new
chart-plain c area old new box narrow plain =
    let r = inner_if c.block (intersected area old.area) in
    inside-plain c.style c.block area old new box plain (chart_drawing c)
    (if-narrow (not (c.bar_width == 0)) (groups_from c r c.groups.items)
    (groups-narrow c narrow r c.groups.items narrow.groups (inner-columns c.block area old.area)))

-- digits are printable
pub digits-printable : (n : ℕ) → n < 2 ^ 64 → ArePrintable (decimal n)
digits-printable n lt k within =
    let at = digit_at (decimal n) k (decimal_is_IsNumeral n lt).0.1 within in
    let low = at.0 in let high = at.1 in record { low = omega arith; high = omega arith }
