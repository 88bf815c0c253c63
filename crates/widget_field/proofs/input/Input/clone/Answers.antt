use Rattle.widget_boxes.proofs.CloneLemmas.{block-same}
use Rattle.widget_field.specs.contracts.input.InputEq.TheImpl.Laws.{laws-law}
use Rattle.widget_field.proofs.input.Input.clone.Goals as goal

pub returns : goal.returns
returns c = rw (block-same _ _ c.in_ok-cloned_block.ensures) (laws-law.refl c.args.self.now)
