use Rattle.widget_boxes.proofs.CloneLemmas.{block-same}
use Rattle.widget_big_text.specs.contracts.big_text.BigTextEq.TheImpl.Laws.{laws-law}
use Rattle.widget_big_text.proofs.big_text.BigText.clone.Goals as goal

pub returns : goal.returns
returns c =
    rw (
      block-same _ _ c.in_ok-cloned_block.ensures,
      c.into_vec.ensures,
      c.in_ok-from_slice.ensures.value,
      c.as_slice.ensures.value,
    )
    (laws-law.refl c.args.self.now)
