use Rattle.std.proofs.Common.{◌≡◌, ◌-◌, drop}
use Rattle.rtui_split.specs.Inner.Slots.{total_of}
use Rattle.rtui_split.proofs.share.rest_of.Given as goal

abbrev pub invariant-loop-slot : goal.invariant-loop-slot
invariant-loop-slot l = l.rest - total_of (drop l.slot-index l.slots) ≡ l.whole - total_of l.slots
