use Rattle.std.proofs.Common.{◌≡◌, ◌∙◌, ap, arith}
use Rattle.std.proofs.lemmas.List.{drop_all}
use Rattle.ratatui_core.proofs.WidgetLemmas.{element-next}
use Rattle.rtui_drawing.specs.{Cuts.cut_from}
use Rattle.rtui_drawing.proofs.DrawingLemmas.{part-cut, done-within, continues-all, continues-in, continues-next}
use Rattle.rtui_drawing.proofs.DrawingLemmas.{continues-stop, continues-end}
use Rattle.widget_bars.specs.{BarAreas.behind_cut, BarCharts.shown_bars, BarCharts.after_bars}
use Rattle.widget_bars.proofs.ChartLemmas.{behind-across, after-across, after-part, continues-behind, cut-is}
use Rattle.widget_bars.proofs.chart.BarChart.draw_groups.Goals as goal

pub loop-group-init : goal.loop-group-init
loop-group-init c = record { across = c.requires.across; part = c.requires.part; rest = continues-all }

pub loop-group-preserved : goal.loop-group-preserved
loop-group-preserved c =
    let item = element-next c.args.self.now.groups.items c.loop-group.group-index c.group-item.result (omega arith)
    (rw c.as_slice-group-items.ensures.value at c.group-item.is) in
    let s = c.args.self.now in
    let gap = behind_cut s.direction s.group_gap in
    let bars = shown_bars s c.group-item.result c.loop-group.left in
    let after = after_bars s c.loop-group.left bars in
    let at : c.of-left.result ≡ cut_from gap after = cut-is c.in_ok-rest.rest c.of-left.ensures c.behind_cut-gap.ensures
    ∙ ap (λ r. cut_from gap r) c.in_ok-rest.ensures.rest in
    let same = (done-within _ c.in_ok-rest.ensures.done).same_area in
    let rest = continues-next (rw item at c.loop-group.invariant.rest) c.in_ok-rest.ensures.done in
    record {
      across = rw (at, behind-across s.direction s.group_gap after, after-across s c.loop-group.left bars)
          c.loop-group.invariant.across;
      part = rw (at, same) (part-cut gap (after-part s c.loop-group.buf.area c.loop-group.left bars
          c.loop-group.invariant.part));
      rest = rw at (continues-in gap (continues-behind s c.loop-group.left bars rest));
    }

pub returns-in_err-rest : goal.returns-in_err-rest
returns-in_err-rest c =
    let item = element-next c.args.self.now.groups.items c.loop-group.group-index c.group-item.result (omega arith)
    (rw c.as_slice-group-items.ensures.value at c.group-item.is) in
    continues-stop c.from_residual.result c.from_residual.ensures.0 (rw item at c.loop-group.invariant.rest)
    c.in_err-rest.ensures.done

pub returns : goal.returns
returns c =
    let none = drop_all c.loop-group.group-index c.args.self.now.groups.items (omega arith) in
    continues-end (rw none at c.loop-group.invariant.rest)
