use Rattle.std.proofs.Common.{ℕ, ◌≡◌, ◌≤◌, ◌+◌, sum, slice_index}
use Rattle.rtui_split.specs.Inner.Slots.{slot_parts, sizes_of, wishes_of, heights_of}
use Rattle.rtui_split.proofs.RiseLemmas.{RiseInOrder}
use Rattle.rtui_split.proofs.smooth.smooth.Given as goal

abbrev pub invariant-rising : goal.invariant-rising
invariant-rising l = record {
  parts : slot_parts l.slots ≡ slot_parts l.fn.slots;
  order : RiseInOrder (wishes_of l.turn l.slots) (heights_of l.turn l.slots) (sizes_of l.slots);
  within : (i : ℕ) → slice_index (sizes_of l.slots) i ≤ slice_index (wishes_of l.turn l.slots) i;
  all : l.left + sum (sizes_of l.slots) ≡ l.room;
}

abbrev pub decreases-rising : goal.decreases-rising
decreases-rising l = l.left
