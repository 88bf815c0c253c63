use Rattle.std.proofs.Common.{◌≡◌, ◌<◌, ◌≤◌, ℕ, true, slice_index}
use Rattle.text_area.specs.Inner.{in_run}
use Rattle.text_area.proofs.runs.run_start.Given as goal

abbrev pub invariant-walk : goal.invariant-walk
invariant-walk l =
    (l.start ≤ l.end) × ((k : ℕ) → l.start ≤ k → k < l.end → in_run l.run (slice_index l.bytes k) ≡ true)

abbrev pub decreases-walk : goal.decreases-walk
decreases-walk l = l.start
