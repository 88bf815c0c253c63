use Rattle.std.proofs.Common.{◌≡◌, ◌+◌, drop}
use Rattle.rtui_split.specs.Inner.Slots.{wanted_before}
use Rattle.rtui_split.proofs.slot.left_before.Given as goal

-- what the rest wishes, less what is left for it, is what all wish less the room
abbrev pub invariant-loop-part : goal.invariant-loop-part
invariant-loop-part l = l.room + wanted_before l.turn (drop l.part-index l.slots) ≡ l.left + wanted_before l.turn l.slots
