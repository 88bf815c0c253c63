-- What a motion makes of a place.
use Rattle.std.proofs.Common.{◌≡◌, ℕ, Bool, true, false, refl, ap₂, if◌then◌else◌}
use Rattle.rtui_backend.specs.Screen.{Motion, moved_by}

module _ {A : Type 0} (m : Motion) (nothing : A) (was : ℕ → ℕ → A) (x y : ℕ) where
  -- what is made of a place is made of what comes to it
  pub moved-through : {B : Type 0} (f : A → B) → f (moved_by m nothing was x y) ≡ moved_by m (f nothing) (λ a b. f (was a b)) x y
  moved-through f = either (m.part x y) (m.has_source y)
    where
      either : (p q : Bool) → f (if p then (if q then was x (m.source y) else nothing) else was x y) ≡
          (if p then (if q then f (was x (m.source y)) else f nothing) else f (was x y))
      either true true = refl
      either true false = refl
      either false q = refl

  -- and so where the same comes to it
  pub moved-along : (is : ℕ → ℕ → A) → ((b : ℕ) → was x b ≡ is x b) → moved_by m nothing was x y ≡ moved_by m nothing is x y
  moved-along is same = ap₂ (λ i j. if m.part x y then (if m.has_source y then i else nothing) else j) (same (m.source y))
      (same y)
