use Rattle.std.proofs.Common.{ℕ, ◌≤◌, ◌<◌, slice_index}
use Rattle.rtui_split.specs.Inner.Slots.{wishes_of}
use Rattle.rtui_split.proofs.smooth.ceiling_of.Given as goal

abbrev pub invariant-loop-i : goal.invariant-loop-i
invariant-loop-i l = record {
  higher : l.fn.run.height < l.top;
  most : (k : ℕ) → l.fn.run.first ≤ k → k < l.i → l.top ≤ slice_index (wishes_of l.turn l.slots) k;
}
