use Rattle.std.proofs.Common.{◌-◌, ◌≤◌, arith}
use Rattle.widget_tree.specs.Nodes.{depths_of}
use Rattle.widget_tree.proofs.AncestorLemmas.{depth_at}
use Rattle.widget_tree.proofs.BuildLemmas.{depth-read, up-next}
use Rattle.widget_tree.proofs.links.up_of.Goals as goal

pub loop-up-preserved : goal.loop-up-preserved
loop-up-preserved c =
    let ds = depths_of c.args.items.now in
    let most = c.loop-up.invariant.at_most in
    let le : depth_at ds c.args.k ≤ depth_at ds (c.loop-up.up - 1) = grind (arith, depth-read) in
    up-next c.loop-up.invariant (omega arith) (c.requires.known.each (c.loop-up.up - 1) (omega arith)) le
