use Rattle.std.proofs.Common.{◌≡◌, drop}
use Rattle.rtui_split.specs.Inner.Slots.{weights}
use Rattle.rtui_split.proofs.level.weigh_nothing.Given as goal

-- the rest weighs what all weigh
abbrev pub invariant-loop-part : goal.invariant-loop-part
invariant-loop-part l = weights l.legacy (drop l.part-index l.slots) ≡ weights l.legacy l.slots
