use Rattle.std.proofs.Common.{◌≡◌, drop}
use Rattle.pager.specs.Search.{occurs}
use Rattle.pager.proofs.search.occurs_in_any_case.Given as goal

abbrev pub invariant-loop-at : goal.invariant-loop-at
invariant-loop-at l = occurs l.fn.pattern l.fn.line ≡ occurs l.fn.pattern (drop l.at l.fn.line)
