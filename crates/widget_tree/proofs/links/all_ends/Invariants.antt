use Rattle.widget_tree.specs.Inner.{HasEnds}
use Rattle.widget_tree.specs.Nodes.{depths_of}
use Rattle.widget_tree.proofs.links.all_ends.Given as goal

abbrev pub invariant-loop-k : goal.invariant-loop-k
invariant-loop-k l = HasEnds (depths_of l.items) l.ends.items l.k
