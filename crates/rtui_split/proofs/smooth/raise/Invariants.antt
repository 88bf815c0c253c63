use Rattle.std.proofs.Common.{ℕ, ◌≡◌, ◌≤◌, ◌<◌, ◌+◌, ◌-◌, ◌*◌, ◌⊎◌, max, sum, slice_index}
use Rattle.rtui_split.specs.Inner.Slots.{slot_parts, sizes_of}
use Rattle.rtui_split.proofs.smooth.raise.Given as goal

abbrev pub invariant-loop-i : goal.invariant-loop-i
invariant-loop-i l = record {
  parts : slot_parts l.slots ≡ slot_parts l.fn.slots;
  from : l.fn.run.first ≤ l.i;
  to : l.i ≤ max l.fn.run.first l.fn.run.after;
  inside : (k : ℕ) → l.fn.run.first ≤ k → k < l.i → slice_index (sizes_of l.slots) k ≡ l.height;
  others : (k : ℕ) → (k < l.fn.run.first) ⊎ (l.i ≤ k)
      → slice_index (sizes_of l.slots) k ≡ slice_index (sizes_of l.initial.slots) k;
  all : sum (sizes_of l.slots) ≡ sum (sizes_of l.initial.slots)
      + (l.height - l.fn.run.height) * (l.i - l.fn.run.first);
}
