use Rattle.std.proofs.Common.{◌≡◌, min, length, sym, ap, ◌∙◌, arith}
use Rattle.widget_tree.specs.Depths.{last_node}
use Rattle.widget_tree.specs.Nodes.{depths_of}
use Rattle.widget_tree.specs.Moves.{node_above}
use Rattle.widget_tree.proofs.BuildLemmas.{length-depths}
use Rattle.widget_tree.proofs.MoveLemmas.{last-cut, above-some, above-first}
use Rattle.widget_tree.proofs.nodes.Nodes.above.Goals as goal

pub returns-in-Some-last_shown : goal.returns-in-Some-last_shown
returns-in-Some-last_shown c =
    let items = c.args.self.now.items.items in
    let ds = depths_of items in
    let os = c.args.opened.now in
    let k = c.in-Some.k in
    let at : c.min.result ≡ min k (length ds) = omega (arith, length-depths items) in
    sym (ap (λ o. node_above ds os o) c.in-Some.is
    ∙ above-some ds os k c.in-Some-last_shown.previous
    (sym (c.in-Some-last_shown.ensures.value ∙ ap (λ n. last_node ds os n) at ∙ last-cut ds os k)))

pub returns-in-None : goal.returns-in-None
returns-in-None c =
    let items = c.args.self.now.items.items in
    let ds = depths_of items in
    let os = c.args.opened.now in
    let k = c.in-Some.k in
    let at : c.min.result ≡ min k (length ds) = omega (arith, length-depths items) in
    c.first_shown.ensures.value
    ∙ sym (ap (λ o. node_above ds os o) c.in-Some.is
    ∙ above-first ds os k (sym (c.in-None.ensures.value ∙ ap (λ n. last_node ds os n) at ∙ last-cut ds os k)))
