use Rattle.std.proofs.Common.{◌≡◌, ◌+◌, take}
use Rattle.rtui_split.specs.Inner.Slots.{capped_in}
use Rattle.rtui_split.proofs.cap.has_room.Given as goal

abbrev pub invariant-loop-part : goal.invariant-loop-part
invariant-loop-part l = l.left + capped_in l.turn l.most (take l.part-index l.slots) ≡ l.room
