use Rattle.std.proofs.Common.{sym, ◌∙◌, arith}
use Rattle.files.proofs.FindLemmas.{last-here, last-earlier, last-less}
use Rattle.files.proofs.search.last_of_all.Goals as goal

pub returns-then-has_at : goal.returns-then-has_at
returns-then-has_at c = sym (c.loop-place.invariant ∙ last-here c.args.text.now c.args.rows.now _ c.loop-place.place
    (omega arith) (sym c.has_at.ensures ∙ c.if-has_at.true))

pub loop-place-preserved : goal.loop-place-preserved
loop-place-preserved c = c.loop-place.invariant ∙ last-earlier c.args.text.now c.args.rows.now _ c.loop-place.place
    (omega arith) (sym c.has_at.ensures ∙ c.if-has_at.false)

pub returns : goal.returns
returns c = sym (c.loop-place.invariant ∙ last-less c.args.text.now c.args.rows.now c.loop-place.place c.args.start
    (omega arith) c.requires)
