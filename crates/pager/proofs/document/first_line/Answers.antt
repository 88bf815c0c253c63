use Rattle.std.proofs.Common.{arith}
use Rattle.std.proofs.lemmas.Bool.Decides.{nat_tests}
use Rattle.pager.proofs.FirstLineLemmas.{only-line, first-line, after-end}
use Rattle.pager.proofs.document.first_line.Goals as goal

pub range_from-requires : goal.range_from-requires
range_from-requires c = λ _. after-end c.args.text.now c.as_bytes.result.now c.in-Some.end c.utf8.text
    c.as_bytes.ensures.value c.in-Some.ensures

pub returns-in-Some-clause-some : goal.returns-in-Some-clause-some
returns-in-Some-clause-some c = first-line c.args.text.now c.as_bytes.result.now _ _ _ c.in-Some.end
    c.as_bytes.ensures.value c.in-Some.ensures c.without_return.ensures c.range.ensures.value
    c.range_from.ensures.value

pub returns-in-None-2-clause-some : goal.returns-in-None-2-clause-some
returns-in-None-2-clause-some c = only-line c.args.text.now c.as_bytes.result.now
    c.as_bytes.ensures.value c.in-None.ensures
    (grind (arith, nat_tests, c.if-is_empty.false, c.is_empty.ensures))
