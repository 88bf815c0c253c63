use Rattle.std.proofs.Common.{◌≡◌, ◌∙◌, ap, refl, arith}
use Rattle.std.proofs.lemmas.List.{drop_all}
use Rattle.ratatui_core.proofs.WidgetLemmas.{element-next}
use Rattle.rtui_drawing.specs.{Cuts.cut_from}
use Rattle.rtui_drawing.proofs.DrawingLemmas.{part-cut, done-within, done-in, continues-all, continues-in, continues-next}
use Rattle.rtui_drawing.proofs.DrawingLemmas.{continues-stop, continues-end}
use Rattle.widget_bars.specs.{BarAreas.bar_cut, BarAreas.behind_cut, BarCharts.bar_step}
use Rattle.widget_bars.proofs.ChartLemmas.{bar-cells, behind-across, behind-along, cut-is}
use Rattle.widget_bars.proofs.chart.BarChart.draw_bars.Goals as goal

pub loop-bar-init : goal.loop-bar-init
loop-bar-init c = record {
  across = c.requires.across;
  part = c.requires.part;
  fit = c.requires.fit;
  rest = continues-all;
  after = refl;
}

pub draw_bar-requires-clause-cells : goal.draw_bar-requires-clause-cells
draw_bar-requires-clause-cells c =
    let item = element-next c.args.bars.now c.loop-bar.bar-index c.bar-item.result (omega arith) c.bar-item.is in
    rw (cut-is c.loop-bar.left c.of.ensures c.bar_cut-own.ensures)
    (bar-cells c.args.self.now.direction c.args.self.now.bar_width c.loop-bar.left c.requires.wide
    (rw item at c.loop-bar.invariant.fit).0 c.loop-bar.invariant.across)

pub draw_bar-requires-clause-part : goal.draw_bar-requires-clause-part
draw_bar-requires-clause-part c = rw c.of.ensures (part-cut c.bar_cut-own.result c.loop-bar.invariant.part)

pub loop-bar-preserved : goal.loop-bar-preserved
loop-bar-preserved c =
    let item = element-next c.args.bars.now c.loop-bar.bar-index c.bar-item.result (omega arith) c.bar-item.is in
    let d = c.args.self.now.direction in
    let n = bar_step c.args.self.now in
    let step : c.saturating_add-step.result ≡ n = omega arith in
    let own = cut-is c.loop-bar.left c.of.ensures c.bar_cut-own.ensures in
    let left = cut-is c.loop-bar.left c.of-left.ensures (c.behind_cut-behind.ensures ∙ ap (λ k. behind_cut d k) step) in
    let one = done-in {r = c.loop-bar.left} (bar_cut d c.args.self.now.bar_width) (cut_from (bar_cut d c.args.self.now.bar_width) c.loop-bar.left)
    _ (rw own at c.in_ok-draw_bar.ensures) refl in
    let same = (done-within _ one).same_area in
    let rest = continues-next (rw item at c.loop-bar.invariant.rest) one in
    record {
      across = rw (left, behind-across d n c.loop-bar.left) c.loop-bar.invariant.across;
      part = rw (left, same) (part-cut (behind_cut d n) c.loop-bar.invariant.part);
      fit = rw (left, behind-along d n c.loop-bar.left) (rw item at c.loop-bar.invariant.fit).1;
      rest = rw left (continues-in (behind_cut d n) rest);
      after = rw left (rw item at c.loop-bar.invariant.after);
    }

pub returns-in_err-draw_bar-clause-done : goal.returns-in_err-draw_bar-clause-done
returns-in_err-draw_bar-clause-done c =
    let item = element-next c.args.bars.now c.loop-bar.bar-index c.bar-item.result (omega arith) c.bar-item.is in
    let own = cut-is c.loop-bar.left c.of.ensures c.bar_cut-own.ensures in
    let cut = bar_cut c.args.self.now.direction c.args.self.now.bar_width in
    continues-stop c.from_residual.result c.from_residual.ensures.0 (rw item at c.loop-bar.invariant.rest)
    (done-in cut (cut_from cut c.loop-bar.left) _ (rw own at c.in_err-draw_bar.ensures) refl)

pub returns-clause-done : goal.returns-clause-done
returns-clause-done c =
    let none = drop_all c.loop-bar.bar-index c.args.bars.now (omega arith) in
    continues-end (rw none at c.loop-bar.invariant.rest)
