use Rattle.std.proofs.Common.{sym, ◌∙◌, arith}
use Rattle.files.proofs.FindLemmas.{first-here, first-later}
use Rattle.files.proofs.search.first_of_all.Goals as goal

pub returns-then-has_at : goal.returns-then-has_at
returns-then-has_at c = sym (c.loop-place.invariant ∙ first-here c.args.text.now c.args.rows.now c.loop-place.place
    (omega arith) (sym c.has_at.ensures ∙ c.if-has_at.true))

pub loop-place-preserved : goal.loop-place-preserved
loop-place-preserved c = c.loop-place.invariant ∙ first-later c.args.text.now c.args.rows.now c.loop-place.place
    (omega arith) (sym c.has_at.ensures ∙ c.if-has_at.false)
