use Rattle.std.proofs.Common.{◌≡◌, ◌-◌, ◌<◌, ◌≤◌, ℕ, true, length, slice_index}
use Rattle.text_area.specs.Inner.{in_run}
use Rattle.text_area.proofs.runs.run_end.Given as goal

abbrev pub invariant-walk : goal.invariant-walk
invariant-walk l =
    (l.start ≤ l.end) × (l.end ≤ length l.bytes)
    × ((k : ℕ) → l.start ≤ k → k < l.end → in_run l.run (slice_index l.bytes k) ≡ true)

abbrev pub decreases-walk : goal.decreases-walk
decreases-walk l = length l.bytes - l.end
