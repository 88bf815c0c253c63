use Rattle.widget_tree.specs.Inner.{HasUps}
use Rattle.widget_tree.specs.Nodes.{depths_of}
use Rattle.widget_tree.proofs.links.all_ups.Given as goal

abbrev pub invariant-loop-k : goal.invariant-loop-k
invariant-loop-k l = HasUps (depths_of l.items) l.ups.items l.k
