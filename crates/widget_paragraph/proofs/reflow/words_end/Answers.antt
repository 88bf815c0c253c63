use Rattle.std.proofs.Common.{◌∙◌, sym, ap, not}
use Rattle.widget_paragraph.specs.Reflow.{is_break, is_of_word}
use Rattle.widget_paragraph.proofs.ReflowLemmas.{last-before}
use Rattle.widget_paragraph.proofs.reflow.words_end.Goals as goal

pub returns-then-not-is_blank : goal.returns-then-not-is_blank
returns-then-not-is_blank c =
    let i = c.loop-end.invariant in
    let is = ap is_break (sym c.index-graphemes-end.is) ∙ sym c.is_blank.ensures in
    last-before is_of_word c.args.graphemes.now c.loop-end.end _ c.loop-end-test.true i.inside i.none
    (ap not is ∙ ap not c.if-not-is_blank.true)
