use Rattle.std.proofs.Common.{◌≡◌}
use Rattle.pager.specs.Search.{matching}
use Rattle.pager.proofs.document.Document.matching.Given as goal

abbrev pub invariant-loop-number : goal.invariant-loop-number
invariant-loop-number l = record {
  finds : l.finder ≡ l.fn.sought;
  matched : l.numbers.items ≡ matching l.fn.sought l.fn.self l.number;
}
