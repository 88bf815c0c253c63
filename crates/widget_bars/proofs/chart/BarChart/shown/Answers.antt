use Rattle.widget_bars.specs.{BarAreas.cells_along, BarCharts.fitting_count}
use Rattle.widget_bars.proofs.ChartLemmas.{bars-fit, shown-count}
use Rattle.widget_bars.proofs.chart.BarChart.shown.Goals as goal

pub returns-clause-value : goal.returns-clause-value
returns-clause-value c =
    shown-count c.args.self.now c.args.group.now c.args.area c.as_slice-bars.ensures.value c.cells_along-along.ensures
    c.fitting_count.ensures.value c.min-count.ensures

pub returns-clause-fit : goal.returns-clause-fit
returns-clause-fit c =
    let s = c.args.self.now in
    let along = cells_along s.direction c.args.area in
    rw (shown-count s c.args.group.now c.args.area c.as_slice-bars.ensures.value c.cells_along-along.ensures
    c.fitting_count.ensures.value c.min-count.ensures) (bars-fit s (fitting_count s along) along c.args.group.now.bars.items
    (rw (c.fitting_count.ensures.value, c.cells_along-along.ensures) at c.fitting_count.ensures.fits))
