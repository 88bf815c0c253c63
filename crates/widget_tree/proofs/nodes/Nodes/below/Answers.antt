use Rattle.std.proofs.Common.{◌+◌, ◌-◌, ◌^◌, ◌≤◌, length, sym, ap, ◌∙◌, arith}
use Rattle.widget_tree.specs.Depths.{first_node}
use Rattle.widget_tree.specs.Nodes.{depths_of}
use Rattle.widget_tree.specs.Moves.{node_below}
use Rattle.widget_tree.proofs.BuildLemmas.{length-depths}
use Rattle.widget_tree.proofs.MoveLemmas.{first-cut, below-some, below-last}
use Rattle.widget_tree.proofs.nodes.Nodes.below.Goals as goal

pub returns-in-Some-first_shown : goal.returns-in-Some-first_shown
returns-in-Some-first_shown c =
    let v = c.args.self.now.items in
    let ds = depths_of v.items in
    let os = c.args.opened.now in
    let k = c.in-Some.k in
    let most : length ds ≤ 2 ^ 64 - 1 = omega (arith, length-depths v.items, v.ok.0, v.ok.1, v.small) in
    sym (ap (λ o. node_below ds os o) c.in-Some.is
    ∙ below-some ds os k c.in-Some-first_shown.next
    (sym (c.in-Some-first_shown.ensures.value ∙ ap (λ n. first_node ds os n) c.saturating_add.ensures
    ∙ first-cut ds os (k + 1) (2 ^ 64 - 1) most)))

pub returns-in-None : goal.returns-in-None
returns-in-None c =
    let v = c.args.self.now.items in
    let ds = depths_of v.items in
    let os = c.args.opened.now in
    let k = c.in-Some.k in
    let most : length ds ≤ 2 ^ 64 - 1 = omega (arith, length-depths v.items, v.ok.0, v.ok.1, v.small) in
    c.last.ensures
    ∙ sym (ap (λ o. node_below ds os o) c.in-Some.is
    ∙ below-last ds os k
    (sym (c.in-None.ensures.value ∙ ap (λ n. first_node ds os n) c.saturating_add.ensures
    ∙ first-cut ds os (k + 1) (2 ^ 64 - 1) most)))
