-- Why a text is not shown to its end, and what is shown then.
use Rattle.std.specs.Prelude.{◌≡◌, ℕ, IfSome, Option, Some, List, []}
use Rattle.follow.specs.{declared.error.FollowError.FollowError}
use Rattle.follow.specs.declared.error.FollowError.TheVariants.{Write}

-- what leaves the terminal can't be written only once all input was read
abbrev pub EndsBy : Option (List ℕ) → Option (List ℕ) → FollowError → Type 0
EndsBy old new (Write error) = IfSome old (λ _. new ≡ Some [])
EndsBy old new _ = Unit {0}
