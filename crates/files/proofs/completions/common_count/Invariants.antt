use Rattle.std.proofs.Common.{◌≡◌, ◌+◌, drop}
use Rattle.files.specs.Completions.{common_count}
use Rattle.files.proofs.completions.common_count.Given as goal

-- so many are alike, and then it goes on as for the rest
abbrev pub invariant-loop-count : goal.invariant-loop-count
invariant-loop-count l = common_count l.fn.one l.fn.other ≡ l.count + common_count (drop l.count l.fn.one) (drop l.count l.fn.other)
