use Rattle.std.proofs.Common.{◌≡◌, ◌-◌, drop}
use Rattle.rtui_split.specs.Inner.Slots.{tries_in}
use Rattle.rtui_split.proofs.share.spare_of.Given as goal

-- what is left less what the rest tries is what is left in the end
abbrev pub invariant-loop-part : goal.invariant-loop-part
invariant-loop-part l = l.left - tries_in l.short.turn (drop l.part-index l.slots)
    ≡ l.short.left - tries_in l.short.turn l.slots
