use Rattle.std.proofs.Common.{◌≡◌, ℕ, ◌<◌, ◌≤◌, false}
use Rattle.files.specs.Trash.{is_free}
use Rattle.files.proofs.trash.free_number.Given as goal

-- the numbers before are taken
abbrev pub invariant-loop-number : goal.invariant-loop-number
invariant-loop-number l = (k : ℕ) → k < l.number → 1 ≤ k → is_free l.name l.seen k ≡ false
