use Rattle.std.proofs.Common.{◌≡◌, take}
use Rattle.widget_tree.proofs.nodes.cloned_items.Given as goal

abbrev pub invariant-loop-item : goal.invariant-loop-item
invariant-loop-item l = l.cloned.items ≡ take l.item-index l.items
