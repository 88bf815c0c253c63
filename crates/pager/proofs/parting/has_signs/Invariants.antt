use Rattle.std.proofs.Common.{◌≡◌, take}
use Rattle.pager.specs.Parted.{has_signs}
use Rattle.pager.proofs.parting.has_signs.Given as goal

abbrev pub invariant-loop-byte : goal.invariant-loop-byte
invariant-loop-byte l = l.found ≡ has_signs (take l.byte-index l.byte-items)
