use Rattle.std.proofs.Common.{◌≡◌, length, sym, ap, ◌∙◌, arith}
use Rattle.widget_tree.specs.Depths.{last_node}
use Rattle.widget_tree.proofs.BuildLemmas.{length-depths}
use Rattle.widget_tree.specs.Nodes.{depths_of}
use Rattle.widget_tree.proofs.ScrollLemmas.{start-first, start-last}
use Rattle.widget_tree.proofs.nodes.Nodes.row_start.Goals as goal

pub returns-in-Some-clause-value : goal.returns-in-Some-clause-value
returns-in-Some-clause-value c =
    let ds = depths_of c.args.self.now.items.items in
    sym (start-first ds c.args.opened.now c.args.was c.in-Some.first (sym c.in-Some.ensures.value))

pub returns-clause-value : goal.returns-clause-value
returns-clause-value c =
    let items = c.args.self.now.items.items in
    let ds = depths_of items in
    let os = c.args.opened.now in
    let count : length ds ≡ c.len.result = omega (arith, length-depths items) in
    c.unwrap_or.ensures
    ∙ sym (start-last ds os c.args.was c.last_shown.result (sym c.in_default.ensures.value)
    (ap (λ n. last_node ds os n) count ∙ sym c.last_shown.ensures.value))
