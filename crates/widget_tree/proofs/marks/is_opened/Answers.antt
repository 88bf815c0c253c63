use Rattle.std.proofs.Common.{false, sym, ◌∙◌}
use Rattle.std.proofs.lemmas.Bool.{le-ltb}
use Rattle.std.proofs.lemmas.List.{get_or_past}
use Rattle.widget_tree.specs.Depths.{is_opened}
use Rattle.widget_tree.proofs.marks.is_opened.Goals as goal

pub returns-then-k-opened : goal.returns-then-k-opened
unfolding is_opened
returns-then-k-opened c = search

pub returns-else-k-opened : goal.returns-else-k-opened
unfolding is_opened
returns-else-k-opened c =
    let past = c.if-k-opened.false in
    le-ltb c.args.k _ past ∙ sym (get_or_past c.args.opened.now c.args.k false past)
