use Rattle.std.proofs.Common.{◌∙◌, ap, sym}
use Rattle.widget_paragraph.specs.Reflow.{is_break}
use Rattle.widget_paragraph.proofs.ReflowLemmas.{last-before}
use Rattle.widget_paragraph.proofs.reflow.last_word.Goals as goal

pub returns-then-is_blank : goal.returns-then-is_blank
returns-then-is_blank c =
    let i = c.loop-start.invariant in
    last-before is_break c.args.graphemes.now c.loop-start.start _ c.loop-start-test.true i.inside i.none
    (ap is_break (sym c.index-graphemes-start.is) ∙ (sym c.is_blank.ensures ∙ c.if-is_blank.true))
