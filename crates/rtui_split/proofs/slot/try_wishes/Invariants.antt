use Rattle.std.proofs.Common.{◌≡◌, All, take}
use Rattle.rtui_split.specs.Inner.Slots.{slot_parts, TriesItsWish}
use Rattle.rtui_split.proofs.slot.try_wishes.Given as goal

abbrev pub invariant-loop-slot : goal.invariant-loop-slot
invariant-loop-slot l = record {
  parts : slot_parts l.slots ≡ slot_parts l.fn.slots;
  wish : All TriesItsWish (take l.slot-index l.slots);
}
