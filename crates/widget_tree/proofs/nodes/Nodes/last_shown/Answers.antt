use Rattle.std.proofs.Common.{◌≡◌, ◌+◌, ◌-◌, sym, ap, ◌∙◌, arith}
use Rattle.widget_tree.specs.Nodes.{depths_of}
use Rattle.widget_tree.specs.Depths.{last_node}
use Rattle.widget_tree.proofs.ShownLemmas.{last-none}
use Rattle.widget_tree.proofs.LinkLemmas.{last-stands}
use Rattle.widget_tree.proofs.nodes.Nodes.last_shown.Goals as goal

pub returns-then-to-eq0-clause-value : goal.returns-then-to-eq0-clause-value
returns-then-to-eq0-clause-value c =
    let ds = depths_of c.args.self.now.items.items in
    let none : c.args.to ≡ 0 = omega arith in
    sym (ap (λ n. last_node ds c.args.opened.now n) none ∙ last-none ds c.args.opened.now)

pub returns-clause-value : goal.returns-clause-value
returns-clause-value c =
    let e : c.args.to - 1 + 1 ≡ c.args.to = omega arith in
    sym (last-stands c.args.to e c.standing.ensures)
