-- How a backend counts its failed calls, and how it stood before one.
use Rattle.std.specs.Prelude.{◌≡◌, ℕ, ◌+◌, ◌-◌, ◌^◌, ◌<◌, Result, MatchResult}

-- an Ok leaves the count, and an Err raises it by one, below the greatest
abbrev pub Counts : {T E : Type 0} → Result T E → ℕ → ℕ → Type 0
Counts result old new = MatchResult result (λ _. new ≡ old) (λ _. old < 2 ^ 64 - 1 → new ≡ old + 1)

-- a call failed on a backend of which this was true, and left that backend
pub record FailsAfter {B : Type 0} (stops_at : B → B → Type 0) (Was : B → Type 0) (new : B) : Type 0 where
  pub before : B
  pub was : Was before
  pub stopped : stops_at before new
