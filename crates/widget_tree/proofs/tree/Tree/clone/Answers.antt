use Rattle.widget_boxes.proofs.CloneLemmas.{block-same}
use Rattle.widget_tree.specs.contracts.tree.TreeEq.TheImpl.Laws.{laws-law}
use Rattle.widget_tree.proofs.tree.Tree.clone.Goals as goal

pub returns : goal.returns
returns c =
    rw (
      block-same _ _ c.in_ok-cloned_block.ensures,
      c.in_ok-clone.ensures.items,
      c.in_ok-clone.ensures.ups,
      c.in_ok-clone.ensures.ends,
    ) (laws-law.refl c.args.self.now)
