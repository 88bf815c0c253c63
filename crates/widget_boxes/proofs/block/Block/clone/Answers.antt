use Rattle.widget_boxes.specs.contracts.block.BlockEq.TheImpl.Laws.{laws-law}
use Rattle.widget_boxes.proofs.block.Block.clone.Goals as goal

pub returns-clause-value : goal.returns-clause-value
returns-clause-value c =
    rw (c.in_ok-cloned_titles.ensures.value, c.as_slice.ensures.value) (laws-law.refl c.args.self.now)
