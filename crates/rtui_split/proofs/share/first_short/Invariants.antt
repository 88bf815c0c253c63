use Rattle.std.proofs.Common.{◌≡◌, ◌+◌}
use Rattle.rtui_split.specs.Inner.Slots.{wanted_before}
use Rattle.rtui_split.proofs.share.first_short.Given as goal

abbrev pub invariant-loop-turn : goal.invariant-loop-turn
invariant-loop-turn l = l.left + wanted_before l.turn l.slots ≡ l.room
