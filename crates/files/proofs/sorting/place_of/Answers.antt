use Rattle.std.proofs.Common.{sym, ◌∙◌}
use borrow.Author.Count.{below_more}
use Rattle.files.proofs.SortLemmas.{found-row, further-row, no-row}
use Rattle.files.proofs.sorting.place_of.Goals as goal

pub returns-then-eq : goal.returns-then-eq
returns-then-eq c = found-row c.args.name.now c.as_str.result.now c.args.other c.args.rows.now c.loop-place.place
    c.index-rows-place.result c.loop-place-test.true c.index-rows-place.is c.as_str.ensures.value
    (sym c.eq.ensures ∙ c.if-eq.true)

pub loop-place-preserved : goal.loop-place-preserved
loop-place-preserved c = below_more _ _ c.loop-place.invariant
    (further-row c.args.name.now c.as_str.result.now c.args.rows.now c.loop-place.place c.index-rows-place.result
    c.loop-place-test.true c.index-rows-place.is c.as_str.ensures.value (sym c.eq.ensures ∙ c.if-eq.false))

pub returns : goal.returns
returns c = no-row c.args.name.now c.args.other c.args.rows.now c.loop-place.place c.loop-place-test.false c.loop-place.invariant
