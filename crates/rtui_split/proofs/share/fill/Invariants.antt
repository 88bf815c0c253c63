use Rattle.std.proofs.Common.{◌≡◌, take}
use Rattle.rtui_split.specs.Inner.Slots.{AllSlots, slot_parts, HasSizeAt}
use Rattle.rtui_split.proofs.share.fill.Given as goal

abbrev pub invariant-loop-slot : goal.invariant-loop-slot
invariant-loop-slot l = record {
  parts : slot_parts l.slots ≡ slot_parts l.fn.slots;
  sizes : AllSlots (HasSizeAt l.takers l.level) (take l.slot-index l.slots);
}
