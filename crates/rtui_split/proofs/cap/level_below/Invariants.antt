use Rattle.std.proofs.Common.{◌≤◌, ◌<◌, ◌-◌}
use Rattle.rtui_split.specs.Inner.Slots.{capped_in}
use Rattle.rtui_split.proofs.cap.level_below.Given as goal

abbrev pub invariant-halves : goal.invariant-halves
invariant-halves l = record {
  fits : capped_in l.turn l.low l.slots ≤ l.room;
  misses : l.room < capped_in l.turn l.high l.slots;
}

abbrev pub decreases-halves : goal.decreases-halves
decreases-halves l = l.high - l.low
