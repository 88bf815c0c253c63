use Rattle.rtui_drawing.specs.declared.cut.Cut.TheVariants.{After, Above}
use Rattle.rtui_drawing.proofs.DrawingLemmas.{part-cut, done-within, done-stop}
use Rattle.widget_chart.proofs.PlotLemmas.{plot-done}
use Rattle.widget_chart.proofs.chart.Chart.draw.Goals as goal

pub returns-in_err-draw_axes : goal.returns-in_err-draw_axes
returns-in_err-draw_axes c =
    done-stop _ c.from_residual.ensures.0 (rw c.margins_in-margins.ensures.value at c.in_err-draw_axes.ensures)

pub draw_plot-requires-clause-part : goal.draw_plot-requires-clause-part
draw_plot-requires-clause-part c =
    let m = c.margins_in-margins.result in
    let box = c.requires.some in
    rw (c.graph.ensures, (done-within _ c.in_ok-draw_axes.ensures).same_area)
    (part-cut (Above m.below) (part-cut (After m.left) (record {
      inside = c.requires.inside;
      edges = λ w h. record { right = box.across; bottom = box.down };
    })))

pub returns : goal.returns
returns c =
    plot-done c.args.self.now c.args.style c.margins_in-margins.result c.args.inner c.graph.result c.draw_plot.result
    c.margins_in-margins.ensures.value c.graph.ensures c.in_ok-draw_axes.ensures c.draw_plot.ensures
