use Rattle.std.proofs.Common.{◌≤◌, ◌<◌, ◌-◌}
use Rattle.rtui_split.specs.Inner.Slots.{filled_at}
use Rattle.rtui_split.proofs.level.level_between.Given as goal

abbrev pub invariant-halves : goal.invariant-halves
invariant-halves l = record {
  fits : filled_at l.takers l.low l.slots ≤ l.room;
  misses : l.room < filled_at l.takers l.high l.slots;
}

abbrev pub decreases-halves : goal.decreases-halves
decreases-halves l = l.high - l.low
