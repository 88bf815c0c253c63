use Rattle.std.proofs.Common.{◌∙◌}
use Rattle.ratatui_core.proofs.WidgetLemmas.{holds_anyway}
use Rattle.rtui_drawing.proofs.DrawingLemmas.{done-within, done-short}
use Rattle.widget_boxes.proofs.FrameLemmas.{frame-alone, frame-own, frame-within}
use Rattle.widget_chart.specs.Plots.{ShowsPlot}
use Rattle.widget_chart.proofs.{PlotLemmas.plot-ok, PlotLemmas.plot-left, ShortPlotLemmas.short-plot}
use Rattle.widget_chart.proofs.chart.RefChartWidget.render.Goals as goal

pub returns-in_default-clause-ok : goal.returns-in_default-clause-ok
returns-in_default-clause-ok c =
    frame-alone c.args.self.now.style c.args.self.now.block (λ _ _. ShowsPlot c.args.self.now) tt c.args.area c.args.buf.now
    c.render_frame.new.buf c.render_frame.ensures.within (rw c.in_default.is at c.in_ok-inner.ensures.inner)

pub draw-requires-clause-inside : goal.draw-requires-clause-inside
draw-requires-clause-inside c =
    frame-own c.args.self.now.style c.args.self.now.block c.args.area c.in-Some.inner c.args.buf.now c.render_frame.new.buf
    c.render_frame.new.buf (rw c.in-Some.is at c.in_ok-inner.ensures.inner)

pub returns-clause-area : goal.returns-clause-area
returns-clause-area c = (done-within c.draw.result c.draw.ensures).same_area ∙ c.render_frame.ensures.within.same_area

pub returns-clause-ok : goal.returns-clause-ok
returns-clause-ok c =
    plot-ok c.args.self.now c.style_at_first.result c.args.area c.in-Some.inner c.args.buf.now
    c.render_frame.new.buf c.draw.new.buf (rw c.in-Some.is at c.in_ok-inner.ensures.inner) c.style_at_first.ensures
    c.draw.result c.draw.ensures

pub returns-clause-err : goal.returns-clause-err
returns-clause-err c =
    holds_anyway c.draw.result
    (frame-within c.args.self.now.style c.args.self.now.block c.args.area c.in-Some.inner c.args.buf.now c.render_frame.new.buf
    c.draw.new.buf (rw c.in-Some.is at c.in_ok-inner.ensures.inner) (done-within c.draw.result c.draw.ensures))

pub returns-clause-left : goal.returns-clause-left
returns-clause-left c =
    plot-left c.args.self.now c.style_at_first.result c.args.area c.in-Some.inner c.args.buf.now
    c.render_frame.new.buf c.draw.new.buf (rw c.in-Some.is at c.in_ok-inner.ensures.inner) c.style_at_first.ensures
    c.draw.result c.draw.ensures

pub returns-clause-short : goal.returns-clause-short
returns-clause-short c = λ short.
    done-short c.draw.result
    (short-plot c.render_frame.new.buf c.args.self.now c.style_at_first.result c.in-Some.inner short.words short.no_data)
    c.draw.ensures
