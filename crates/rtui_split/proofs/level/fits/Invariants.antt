use Rattle.std.proofs.Common.{◌≡◌, ◌+◌, take}
use Rattle.rtui_split.specs.Inner.Slots.{filled_at}
use Rattle.rtui_split.proofs.level.fits.Given as goal

abbrev pub invariant-loop-part : goal.invariant-loop-part
invariant-loop-part l = l.left + filled_at l.takers l.level (take l.part-index l.slots) ≡ l.room
