-- A position is in a rectangle, or not.
use Rattle.std.proofs.Common.{◌≡◌, ◌⊎◌, true, false, arith, inl, inr}
use Rattle.std.proofs.lemmas.{Bool.false_from_ne_true, Bool.Decides.nat_tests}
use Rattle.rtui_geometry.specs.{declared.position.Position.Position, declared.rect.Rect.Rect}
use Rattle.rtui_geometry.specs.Rect.{HasPosition, has_position}

pub has-or-not : (r : Rect) (p : Position) → HasPosition r p ⊎ (HasPosition r p → ⊥)
has-or-not r p = grind arith

pub position-true : (r : Rect) (p : Position) → HasPosition r p → has_position r p ≡ true
position-true r p h = let l = h.left in let e = h.right in let t = h.top in let b = h.bottom in grind (arith, nat_tests)

pub position-false : (r : Rect) (p : Position) → (HasPosition r p → ⊥) → has_position r p ≡ false
position-false r p off = false_from_ne_true (has_position r p) (λ e. off (record {
  left = grind (arith, nat_tests);
  right = grind (arith, nat_tests);
  top = grind (arith, nat_tests);
  bottom = grind (arith, nat_tests);
}))

pub decide_position : (r : Rect) (p : Position) → (HasPosition r p × (has_position r p ≡ true))
    ⊎ ((HasPosition r p → ⊥) × (has_position r p ≡ false))
decide_position r p = elim (has-or-not r p) [
  | inl has ↦ inl (has, position-true r p has)
  | inr off ↦ inr (off, position-false r p off)
]
