use Rattle.widget_boxes.proofs.CloneLemmas.{block-same}
use Rattle.widget_list.specs.contracts.list.ListEq.TheImpl.Laws.{laws-law}
use Rattle.widget_list.proofs.list.List.clone.Goals as goal

pub returns : goal.returns
returns c =
    rw (
      block-same _ _ c.in_ok-cloned_block.ensures,
      c.in_ok-cloned_items.ensures,
      c.as_slice.ensures.value,
      c.in_ok-cloned_line.ensures,
    ) (laws-law.refl c.args.self.now)
