use Rattle.std.proofs.Common.{◌≡◌, ◌<◌, ℕ, true, slice_index, IsTrue, ◌↔◌}
use Rattle.text_area.specs.Inner.{in_run}
use Rattle.text_area.proofs.runs.are_in_run.Given as goal

abbrev pub invariant-loop-byte : goal.invariant-loop-byte
invariant-loop-byte l = IsTrue l.all ↔ ((k : ℕ) → k < l.byte-index → in_run l.run (slice_index l.bytes k) ≡ true)
