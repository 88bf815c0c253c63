use Rattle.std.proofs.Common.{◌≡◌, subst, arith}
use Rattle.widget_tree.specs.Inner.{IsUp}
use Rattle.widget_tree.specs.Nodes.{depths_of}
use Rattle.widget_tree.proofs.BuildLemmas.{length-depths}
use Rattle.widget_tree.proofs.LinkLemmas.{climbs-end}
use Rattle.widget_tree.proofs.nodes.Nodes.standing.Goals as goal

pub returns : goal.returns
returns c =
    let items = c.args.self.now.items.items in
    let none : c.loop-up.up ≡ 0 = omega arith in
    climbs-end (omega (arith, length-depths items)) c.loop-up.invariant.climbs
    (subst (λ u. IsUp (depths_of items) c.loop-up.at u) none c.loop-up.invariant.up)
