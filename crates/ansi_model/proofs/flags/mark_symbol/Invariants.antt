use Rattle.std.proofs.Common.{◌≡◌, ℕ, ◌&&◌, nat_lt, nat_le, if◌then◌else◌}
use Rattle.ansi_model.specs.Flags.{flag}
use Rattle.ansi_model.proofs.flags.mark_symbol.Given as goal

abbrev pub invariant-loop-place : goal.invariant-loop-place
invariant-loop-place l =
    (k : ℕ) → flag l.flags k
    ≡ (if nat_le l.first k && nat_lt k l.place then nat_lt l.first k && nat_lt k l.past_it else flag l.fn.flags k)
