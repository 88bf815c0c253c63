use Rattle.widget_boxes.proofs.CloneLemmas.{block-same}
use Rattle.widget_sparkline.specs.contracts.sparkline.SparklineEq.TheImpl.Laws.{laws-law}
use Rattle.widget_sparkline.proofs.sparkline.Sparkline.clone.Goals as goal

pub returns : goal.returns
returns c =
    rw (
      block-same _ _ c.in_ok-cloned_block.ensures,
      c.in_ok-from_slice.ensures.items,
      c.as_slice.ensures.value,
    ) (laws-law.refl c.args.self.now)
