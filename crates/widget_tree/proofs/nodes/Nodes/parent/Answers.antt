use Rattle.std.proofs.Common.{◌≡◌, ◌+◌, ◌-◌, sym, subst, arith}
use Rattle.widget_tree.specs.Nodes.{depths_of}
use Rattle.widget_tree.specs.Inner.{IsUp}
use Rattle.widget_tree.proofs.BuildLemmas.{length-depths}
use Rattle.widget_tree.proofs.ParentLemmas.{parent-some, parent-none, parent-past}
use Rattle.widget_tree.proofs.nodes.Nodes.parent.Goals as goal

pub returns-then-k-len : goal.returns-then-k-len
returns-then-k-len c =
    let items = c.args.self.now.items.items in
    sym (parent-past (depths_of items) c.args.k (omega (arith, length-depths items)))

pub returns-then-up-eq0 : goal.returns-then-up-eq0
returns-then-up-eq0 c =
    let ds = depths_of c.args.self.now.items.items in
    let none : c.up-up.result ≡ 0 = omega arith in
    sym (parent-none (subst (λ u. IsUp ds c.args.k u) none c.up-up.ensures))

pub returns-else-up-eq0 : goal.returns-else-up-eq0
returns-else-up-eq0 c =
    let e : c.up-up.result - 1 + 1 ≡ c.up-up.result = omega arith in
    sym (parent-some (c.up-up.result - 1) c.up-up.ensures e)
