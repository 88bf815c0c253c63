use Rattle.widget_tree.specs.Nodes.{depths_of}
use Rattle.widget_tree.proofs.BuildLemmas.{SoFarUp}
use Rattle.widget_tree.proofs.links.up_of.Given as goal

abbrev pub invariant-loop-up : goal.invariant-loop-up
invariant-loop-up l = SoFarUp (depths_of l.fn.items) l.fn.k l.up

abbrev pub decreases-loop-up : goal.decreases-loop-up
decreases-loop-up l = l.up
