use Rattle.std.proofs.Common.{length, ◌-◌}
use Rattle.widget_tree.specs.Nodes.{depths_of}
use Rattle.widget_tree.proofs.BuildLemmas.{SoFarEnd}
use Rattle.widget_tree.proofs.links.end_of.Given as goal

abbrev pub invariant-loop-end : goal.invariant-loop-end
invariant-loop-end l = SoFarEnd (depths_of l.fn.items) l.fn.k l.end

abbrev pub decreases-loop-end : goal.decreases-loop-end
decreases-loop-end l = length l.items - l.end
