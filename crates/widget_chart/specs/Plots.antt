-- What a chart draws, and what it makes of a buffer.
use Rattle.ratatui_core.specs.{Layout.Rect, Layout.corner, Style.Style}
use Rattle.ratatui_core.specs.Buffer.{BufferData, cell_in, style_of}
use Rattle.widget_boxes.specs.Framed.{RendersInFrame, IsShortFrame}
use Rattle.rtui_drawing.specs.declared.cut.Cut.TheVariants.{After, Above}
use Rattle.rtui_drawing.specs.Drawings.{Drawing, over, ◌before◌, DrawsAll, IsStopped}
use Rattle.widget_chart.specs.declared.chart.Chart.{Chart}
use Rattle.widget_chart.specs.ChartLayouts.{margins_of, graph_in, title_columns}
use Rattle.widget_chart.specs.ChartParts.{axes, all_dotted, x_title, y_title}
use Rattle.widget_chart.specs.Legends.{legend_names, legend_box, legend_at}

-- the legend of a chart over its dots
abbrev pub legend_of : Chart → Style → Rect → Drawing
legend_of c style g =
    let ds = c.datasets.items in
    let tx = title_columns c.x_axis.title 0 g in
    let ty = title_columns c.y_axis.title 1 g in
    let at = legend_box c.legend_position c.hidden_legend_constraints.0 c.hidden_legend_constraints.1
    (legend_names ds) g tx ty in
    legend_at style ds at g

-- what stands over the dots: the titles of the axes, and over them the legend
abbrev pub names_of : Chart → Style → Rect → Drawing
names_of c style g =
    x_title style c.x_axis.title g before y_title style c.y_axis.title g before legend_of c style g

-- the area of the dots: the data sets, and the names over them
abbrev pub plot_of : Chart → Style → Rect → Drawing
plot_of c style g = all_dotted c g c.datasets.items before names_of c style g

-- what a chart draws in an area: around its dots the axes with their labels, and then the dots and the names,
-- in a style
abbrev pub plot_drawing : Chart → Style → Rect → Drawing
plot_drawing c style r =
    let m = margins_of c.x_axis c.y_axis r in
    axes c.x_axis c.y_axis m r before over (After m.left) (over (Above m.below) (plot_of c style (graph_in m r)))

-- the style that the first cell of an area has
abbrev pub style_at_first : Rect → BufferData → Style
style_at_first r s = style_of (cell_in s (corner r))

-- a chart over an area, its names in the style that the first cell had before; and one for which memory was
-- refused: all left one thing stands
abbrev pub ShowsPlot : Chart → Rect → BufferData → BufferData → Type 0
ShowsPlot c r old new = DrawsAll (plot_drawing c (style_at_first r old) r) r old new

abbrev pub StopsPlot : Chart → Rect → BufferData → BufferData → Type 0
StopsPlot c r old new = IsStopped (plot_drawing c (style_at_first r old) r) r old new

-- A chart over the part of an area that a buffer has: its style, its box, and inside its parts. Nothing
-- outside the area changes.
abbrev pub RendersChart : Chart → Rect → BufferData → BufferData → Type 0
RendersChart c = RendersInFrame c.style c.block (ShowsPlot c)

-- what a refusal leaves, if the box takes no memory: style and box stand, and inside all left one thing
abbrev pub LeavesChart : Chart → Rect → BufferData → BufferData → Type 0
LeavesChart c area old new = IsShortFrame c.block old → RendersInFrame c.style c.block (StopsPlot c) area old new
