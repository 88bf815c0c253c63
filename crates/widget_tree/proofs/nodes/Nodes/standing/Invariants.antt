use Rattle.widget_tree.specs.Nodes.{depths_of}
use Rattle.widget_tree.specs.Inner.{IsUp}
use Rattle.widget_tree.proofs.LinkLemmas.{Climbs}
use Rattle.widget_tree.proofs.nodes.Nodes.standing.Given as goal

abbrev pub invariant-loop-up : goal.invariant-loop-up
invariant-loop-up l = record {
  climbs : Climbs (depths_of l.fn.self.items.items) l.fn.opened l.fn.k l.at l.standing;
  up : IsUp (depths_of l.fn.self.items.items) l.at l.up;
}

abbrev pub decreases-loop-up : goal.decreases-loop-up
decreases-loop-up l = l.up
