use Rattle.std.proofs.Common.{◌≡◌, drop}
use Rattle.std.specs.List.{position_from}
use Rattle.pager.specs.Search.{has_match, next_match}
use Rattle.pager.proofs.pager.Pager.next_match.Given as goal

abbrev pub invariant-loop-line : goal.invariant-loop-line
invariant-loop-line l = record {
  finds : l.finder ≡ l.fn.sought;
  searched : next_match l.fn.sought l.fn.self.document l.fn.from
      ≡ position_from (has_match l.fn.sought) l.line (drop l.line l.fn.self.document);
}
