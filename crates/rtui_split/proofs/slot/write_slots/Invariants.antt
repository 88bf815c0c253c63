use Rattle.std.proofs.Common.{◌≡◌, map, take}
use Rattle.rtui_split.specs.Inner.Slots.{slot_in}
use Rattle.rtui_split.proofs.slot.write_slots.Given as goal

abbrev pub invariant-loop-i : goal.invariant-loop-i
invariant-loop-i l = take l.i l.slots ≡ map (slot_in l.cells) (take l.i l.constraints)
