use Rattle.widget_boxes.proofs.CloneLemmas.{block-same}
use Rattle.widget_chart.specs.contracts.chart.ChartEq.TheImpl.Laws.{laws-law}
use Rattle.widget_chart.proofs.chart.Chart.clone.Goals as goal

pub returns : goal.returns
returns c =
    rw (
      block-same _ _ c.in_ok-cloned_block.ensures,
      c.in_ok-clone.ensures,
      c.in_ok-clone-2.ensures,
      c.in_ok-cloned_datasets.ensures,
      c.as_slice.ensures.value,
    ) (laws-law.refl c.args.self.now)
