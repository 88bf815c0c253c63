use Rattle.std.proofs.Common.{ℕ, ◌≤◌, ◌<◌, slice_index}
use Rattle.rtui_split.specs.Inner.Slots.{wishes_of}
use Rattle.rtui_split.proofs.smooth.run_from.Given as goal

abbrev pub invariant-loop-after : goal.invariant-loop-after
invariant-loop-after l = record {
  from : l.first ≤ l.after;
  wish : (k : ℕ) → l.first ≤ k → k < l.after → l.height < slice_index (wishes_of l.turn l.slots) k;
}
