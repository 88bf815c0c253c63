use Rattle.std.proofs.Common.{◌≡◌, All, take}
use Rattle.rtui_split.specs.{declared.slot.Slot.Slot, Inner.Slots.slot_parts}
use Rattle.rtui_split.proofs.slot.try_all.Given as goal

abbrev pub invariant-loop-slot : goal.invariant-loop-slot
invariant-loop-slot l = record {
  parts : slot_parts l.slots ≡ slot_parts l.fn.slots;
  same : All (λ (s : Slot). s.size ≡ l.size) (take l.slot-index l.slots);
}
