use Rattle.std.proofs.Common.{◌≡◌, take, map}
use Rattle.widget_tree.specs.Nodes.{raw_node}
use Rattle.widget_tree.proofs.tree.raw_nodes.Given as goal

abbrev pub invariant-loop-item : goal.invariant-loop-item
invariant-loop-item l = l.nodes.items ≡ map (λ item. raw_node item.0 item.1.now) (take l.item-index l.items)
