use Rattle.std.proofs.Common.{sym, ◌∙◌, arith}
use Rattle.std.proofs.lemmas.Bool.{le-ltb}
use Rattle.widget_tree.specs.Nodes.{depths_of}
use Rattle.widget_tree.proofs.BuildLemmas.{length-depths}
use Rattle.widget_tree.proofs.ScrollLemmas.{stands-test, hidden-past}
use Rattle.widget_tree.proofs.nodes.Nodes.is_shown.Goals as goal

pub returns-then-k-len : goal.returns-then-k-len
returns-then-k-len c = stands-test c.standing.ensures

pub returns-else-k-len : goal.returns-else-k-len
returns-else-k-len c =
    let items = c.args.self.now.items.items in
    le-ltb c.args.k c.len.result c.if-k-len.false
    ∙ sym (hidden-past (depths_of items) c.args.opened.now c.args.k (omega (arith, length-depths items)))
