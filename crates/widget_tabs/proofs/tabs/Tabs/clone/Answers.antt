use Rattle.widget_boxes.proofs.CloneLemmas.{block-same}
use Rattle.widget_tabs.specs.contracts.tabs.TabsEq.TheImpl.Laws.{laws-law}
use Rattle.widget_tabs.proofs.tabs.Tabs.clone.Goals as goal

pub returns : goal.returns
returns c =
    rw (
      block-same _ _ c.in_ok-cloned_block.ensures,
      c.into_vec.ensures,
      c.in_ok-from_slice.ensures.value,
      c.as_slice.ensures.value,
      c.in_ok-clone.ensures,
      c.in_ok-cloned_line.ensures,
      c.in_ok-cloned_line-2.ensures,
    )
    (laws-law.refl c.args.self.now)
