use Rattle.std.proofs.Common.{◌+◌, drop, arith}
use Rattle.widget_chart.specs.{Legends.legend_names}
use Rattle.ratatui_core.proofs.WidgetLemmas.{element-next}
use Rattle.widget_chart.proofs.PlotLemmas.{name-counted}
use Rattle.widget_chart.proofs.legend.count_names.Goals as goal

pub loop-dataset-preserved : goal.loop-dataset-preserved
loop-dataset-preserved c =
    let k = c.loop-dataset.dataset-index in
    let d = c.dataset-item.result in
    let item = element-next c.args.datasets.now k d (omega arith) c.dataset-item.is in
    let more = name-counted d.name (legend_names (drop (k + 1) c.args.datasets.now)) in
    let was = rw (item, more) at c.loop-dataset.invariant.rest in
    let own = c.name_count-count.ensures.value in
    let one = c.name_count-count.ensures.one in
    let below = c.loop-dataset.invariant.below in
    record { below = omega arith; rest = omega arith }
