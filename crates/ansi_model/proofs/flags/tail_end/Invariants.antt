use Rattle.std.proofs.Common.{◌≡◌, ℕ, ◌+◌, ◌<◌, ◌≤◌, true}
use Rattle.ansi_model.specs.Flags.{flag}
use Rattle.ansi_model.proofs.flags.tail_end.Given as goal

abbrev pub invariant-loop-column : goal.invariant-loop-column
invariant-loop-column l = (k : ℕ) → l.from ≤ k → k < l.column → flag l.flags (l.start + k) ≡ true
