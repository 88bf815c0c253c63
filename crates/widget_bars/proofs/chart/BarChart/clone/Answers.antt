use Rattle.widget_boxes.proofs.CloneLemmas.{block-same, all-same}
use Rattle.widget_bars.specs.contracts.group.BarGroupEq.TheImpl.Laws.{laws-law as group_laws}
use Rattle.widget_bars.specs.contracts.chart.BarChartEq.TheImpl.Laws.{laws-law}
use Rattle.widget_bars.proofs.chart.BarChart.clone.Goals as goal

pub returns : goal.returns
returns c =
    rw (
      block-same _ _ c.in_ok-cloned_block.ensures,
      all-same group_laws c.args.self.now.groups.items c.in_ok-cloned_groups.field-0.items
          (rw c.as_slice.ensures.value at c.in_ok-cloned_groups.ensures),
    ) (laws-law.refl c.args.self.now)
