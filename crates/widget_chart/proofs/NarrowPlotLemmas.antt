-- A chart of narrow texts and marks keeps cells plain.
use Rattle.std.proofs.Common.{IfSome}
use Rattle.ratatui_core.specs.Layout.{Rect, intersected}
use Rattle.ratatui_core.specs.{Style.Style, Style.new_style, Style.with_bg, Text.TakesOneColumn, Text.EachLineGrapheme}
use Rattle.ratatui_core.specs.Buffer.{BufferData, IsPlainFrom}
use Rattle.ratatui_core.proofs.BufferLemmas.{plain-styled, plain-with_symbol}
use Rattle.rtui_drawing.specs.Drawings.{Drawing, nothing, put, over, ◌before◌}
use Rattle.rtui_drawing.proofs.{Laws.IsNarrowThing, Laws.IsNarrowDrawing, DrawingLemmas.draws-plain}
use Rattle.widget_boxes.specs.{Boxes.IsNarrowBox, Framed.inner_if}
use Rattle.widget_boxes.proofs.InnerLemmas.{plain-inside}
use Rattle.widget_canvas.proofs.NarrowCanvasLemmas.{shown-plain}
use Rattle.widget_chart.specs.declared.{chart.Chart.Chart}
use Rattle.widget_chart.specs.{ChartLayouts.margins_of, ChartLayouts.graph_in, ChartParts.scale_of_data, ChartParts.dots_of_data}
use Rattle.widget_chart.specs.Plots.{plot_drawing, style_at_first, ShowsPlot, RendersChart}
use Rattle.widget_chart.specs.NarrowCharts.{IsNarrowDataset, IsNarrowChart}
use Rattle.widget_chart.proofs.EachThingLemmas.{EachThing, axes-each, dots-each, over-each}

each-narrow : (d : Drawing) → EachThing IsNarrowThing d → IsNarrowDrawing d
each-narrow nothing each = tt
each-narrow (put thing) each = each
each-narrow (over c d) each = each-narrow d each
each-narrow (a before b) each = (each-narrow a each.0, each-narrow b each.1)

plot-narrow : (c : Chart) (style : Style) (r : Rect) → IsNarrowChart c → IsNarrowDrawing (plot_drawing c style r)
plot-narrow c style r narrow =
    let m = margins_of c.x_axis c.y_axis r in
    let g = graph_in m r in
    let T = EachLineGrapheme TakesOneColumn in
    each-narrow (plot_drawing c style r) (
      axes-each IsNarrowThing T (λ _. tt) (λ l is. is)
          (λ s symbol one short p cell is. plain-styled s _ (plain-with_symbol symbol cell is one)) c.x_axis c.y_axis m r
          narrow.x_axis narrow.y_axis,
      (
        dots-each IsNarrowThing T (λ _. tt) (λ l is. is)
            (λ s symbol one short p cell is. plain-styled s _ (plain-with_symbol symbol cell is one)) IsNarrowDataset c g
            (λ d is p cell plain. shown-plain (scale_of_data c d g) is.marks g (dots_of_data (scale_of_data c d g) d) p _
            (plain-styled (with_bg _ new_style) _ (plain-styled new_style cell plain))) c.datasets.items narrow.datasets,
        over-each IsNarrowThing T (λ _. tt) (λ l is. is)
            (λ s symbol one short p cell is. plain-styled s _ (plain-with_symbol symbol cell is one)) IsNarrowDataset c style g
            narrow.x_axis narrow.y_axis (λ d is. is.name) narrow.datasets,
      ),
    )

pub chart-plain : (c : Chart) (area : Rect) (old new : BufferData) → IfSome c.block IsNarrowBox → IsNarrowChart c
    → IsPlainFrom 0 old → RendersChart c area old new → IsPlainFrom 0 new
chart-plain c area old new box narrow plain is =
    let r = inner_if c.block (intersected area old.area) in
    plain-inside c.style c.block (λ _ _. ShowsPlot c) tt tt area old new box plain
    (λ framed cells shown. let style = style_at_first r framed in
    draws-plain (plot_drawing c style r) r framed new (plot-narrow c style r narrow) cells shown) is
