use Rattle.std.proofs.Common.{◌-◌, ◌≡◌, ◌≤◌}
use Rattle.rtui_diff.specs.{Remaining.places_left, Inner.IsSameBut}
use Rattle.rtui_diff.proofs.diff.DiffWalk.pass_same.Given as goal

abbrev pub invariant-loop-self : goal.invariant-loop-self
invariant-loop-self l = record {
  left : places_left l.self ≡ places_left l.initial.self;
  further : l.initial.self.pos ≤ l.self.pos;
  past : l.self.end ≤ l.self.pos;
  row : l.self.row ≡ l.initial.self.row;
  same : IsSameBut l.initial.self l.self;
}

abbrev pub decreases-loop-self : goal.decreases-loop-self
decreases-loop-self l = l.self.len - l.self.pos
