use Rattle.std.proofs.Common.{◌+◌, drop, arith}
use Rattle.widget_chart.specs.{Legends.legend_names}
use Rattle.ratatui_core.proofs.WidgetLemmas.{element-next}
use Rattle.widget_chart.proofs.PlotLemmas.{name-widest}
use Rattle.widget_chart.proofs.legend.widest_name.Goals as goal

pub loop-dataset-preserved : goal.loop-dataset-preserved
loop-dataset-preserved c =
    let k = c.loop-dataset.dataset-index in
    let d = c.dataset-item.result in
    let item = element-next c.args.datasets.now k d (omega arith) c.dataset-item.is in
    let more = name-widest d.name (legend_names (drop (k + 1) c.args.datasets.now)) in
    let was = rw (item, more) at c.loop-dataset.invariant in
    let own = c.name_columns.ensures in
    omega arith
