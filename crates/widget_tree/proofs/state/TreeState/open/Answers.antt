use Rattle.std.proofs.Common.{sym, arith}
use Rattle.widget_tree.specs.Nodes.{depths_of}
use Rattle.widget_tree.proofs.BuildLemmas.{length-depths}
use Rattle.widget_tree.proofs.MoveLemmas.{children-there}
use Rattle.widget_tree.proofs.state.TreeState.open.Goals as goal

pub open-requires : goal.open-requires
open-requires c =
    let items = c.args.tree.now.nodes.items.items in
    let lt = children-there (depths_of items) c.args.node (sym c.if-not-has_children.ensures) in
    omega (arith, length-depths items)
