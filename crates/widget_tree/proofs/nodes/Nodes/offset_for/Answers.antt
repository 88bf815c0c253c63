use Rattle.std.proofs.Common.{sym, ap, ◌∙◌, arith}
use Rattle.widget_tree.specs.Nodes.{depths_of}
use Rattle.widget_tree.specs.Rows.{offset_for, scrolled_to}
use Rattle.widget_tree.proofs.BuildLemmas.{length-depths}
use Rattle.widget_tree.proofs.ShownLemmas.{shown-from}
use Rattle.widget_tree.proofs.ScrollLemmas.{offset-none, offset-shown, offset-hidden}
use Rattle.widget_tree.proofs.nodes.Nodes.offset_for.Goals as goal

pub scrolled-requires-clause-start : goal.scrolled-requires-clause-start
scrolled-requires-clause-start c =
    let items = c.args.self.now.items.items in
    let there = (shown-from {ds = depths_of items} {os = c.args.opened.now} {k = c.in-Some.k} (sym c.if-is_shown.ensures)).there in
    c.row_start-start.ensures.shown (omega (arith, length-depths items))

pub returns-then-is_shown-clause-value : goal.returns-then-is_shown-clause-value
returns-then-is_shown-clause-value c =
    let ds = depths_of c.args.self.now.items.items in
    let os = c.args.opened.now in
    let h = c.args.height in let was = c.args.was in
    c.scrolled.ensures.value ∙ ap (λ s. scrolled_to ds os h s c.in-Some.k) c.row_start-start.ensures.value
    ∙ sym (offset-shown ds os h was c.in-Some.k (sym c.if-is_shown.ensures))
    ∙ ap (λ o. offset_for ds os h was o) (sym c.in-Some.is)

pub returns-then-is_shown-clause-shown : goal.returns-then-is_shown-clause-shown
returns-then-is_shown-clause-shown c = λ some. c.scrolled.ensures.shown

pub returns-else-is_shown-clause-value : goal.returns-else-is_shown-clause-value
returns-else-is_shown-clause-value c =
    let ds = depths_of c.args.self.now.items.items in
    let os = c.args.opened.now in
    let h = c.args.height in let was = c.args.was in
    c.row_start-start.ensures.value ∙ sym (offset-hidden ds os h was c.in-Some.k (sym c.if-is_shown.ensures))
    ∙ ap (λ o. offset_for ds os h was o) (sym c.in-Some.is)

pub returns-in-None-clause-value : goal.returns-in-None-clause-value
returns-in-None-clause-value c =
    let ds = depths_of c.args.self.now.items.items in
    let os = c.args.opened.now in
    let h = c.args.height in let was = c.args.was in
    c.row_start-start.ensures.value ∙ sym (offset-none ds os h was) ∙ ap (λ o. offset_for ds os h was o) (sym c.in-None.is)
