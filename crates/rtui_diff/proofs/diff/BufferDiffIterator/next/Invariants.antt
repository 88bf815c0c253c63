use Rattle.std.proofs.Common.{◌-◌, ◌≡◌}
use Rattle.rtui_diff.specs.Remaining.{updates_left}
use Rattle.rtui_diff.proofs.diff.BufferDiffIterator.next.Given as goal

abbrev pub invariant-loop-self : goal.invariant-loop-self
invariant-loop-self l = record {
  left : updates_left l.self-inside.walk ≡ updates_left l.initial.self-inside.walk;
}

abbrev pub decreases-loop-self : goal.decreases-loop-self
decreases-loop-self l = l.self-inside.walk.len - l.self-inside.walk.pos
