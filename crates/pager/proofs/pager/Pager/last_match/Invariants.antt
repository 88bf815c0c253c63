use Rattle.std.proofs.Common.{◌≡◌}
use Rattle.pager.specs.Search.{last_match}
use Rattle.pager.proofs.pager.Pager.last_match.Given as goal

abbrev pub invariant-loop-line : goal.invariant-loop-line
invariant-loop-line l = record {
  finds : l.finder ≡ l.fn.sought;
  searched : last_match l.fn.sought l.fn.self.document l.fn.before ≡ last_match l.fn.sought l.fn.self.document l.line;
}

abbrev pub decreases-loop-line : goal.decreases-loop-line
decreases-loop-line l = l.line
