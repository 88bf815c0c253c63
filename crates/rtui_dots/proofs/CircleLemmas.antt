-- A circle's points, one after the other.
use Rattle.std.proofs.Common.{◌≡◌, ℕ, suc, ◌+◌, ◌-◌, ◌^◌, ◌<◌, ◌≤◌, ℤ, pos, ◌*ℤ◌, List, [], ◌∷◌, ◌∙◌, ap, sym}
use Rattle.std.proofs.Common.{arith}
use Rattle.std.specs.Prelude.{unsigned_abs}
use Rattle.std.proofs.Math.Nat.{mul-le-mul}
use Rattle.std.proofs.lemmas.Int.{unsigned_abs-mul}
use Rattle.rtui_dots.specs.declared.{scale.Scale.Scale, painter.DotCell.DotCell, painter.Painter.Painter, circle.Circle.Circle}
use Rattle.rtui_dots.specs.Grids.{with_dot, with_dots, SetsDots}
use Rattle.rtui_dots.specs.Circles.{cosine_of, fine, fine_column, fine_row, circle_dot, degrees_from}

-- a radius by a cosine is far below what a number of 128 bits holds
pub product-in : (r : ℕ) (z : ℤ) → r < 2 ^ 64 → unsigned_abs z < 2 ^ 32 → unsigned_abs (pos r *ℤ z) < 2 ^ 96
product-in r z a b =
    let lr : r ≤ 2 ^ 64 - 1 = omega arith in let lz : unsigned_abs z ≤ 2 ^ 32 - 1 = omega arith in
    rw unsigned_abs-mul (omega (arith, mul-le-mul lr lz))

-- the dot of a degree is set, and those of the others are left
pub next-degree : (s : Scale) (c : Circle) (d n m : ℕ) (old new : Painter) (all : List DotCell) → n ≡ suc m → old.scale ≡ s
    → SetsDots (circle_dot old.scale c d ∷ []) old new
    → with_dots s (degrees_from s c d n) old.cells.items ≡ all → with_dots s (degrees_from s c (d + 1) m) new.cells.items ≡ all
unfolding degrees_from
next-degree s c d n m old new all e same paints was =
    ap (with_dots s (degrees_from s c (d + 1) m)) (paints.cells ∙ ap (λ q. with_dot q (circle_dot q c d) old.cells.items) same)
    ∙ sym (ap (λ k. with_dots s (degrees_from s c d k) old.cells.items) e) ∙ was

-- no degree is left
pub no-degrees : (s : Scale) (c : Circle) (d n : ℕ) (cells : List DotCell) → n ≡ 0
    → with_dots s (degrees_from s c d n) cells ≡ cells
unfolding degrees_from
no-degrees s c d n cells e = ap (λ k. with_dots s (degrees_from s c d k) cells) e

-- the dot of a degree, by its column and its row
pub degree-painted : (s : Scale) (c : Circle) (d column row : ℕ) (old new : Painter)
    → column ≡ fine_column s (fine c.x c.radius (cosine_of d)) → row ≡ fine_row s (fine c.y c.radius (cosine_of (d + 270)))
    → SetsDots (record { x = column; y = row; color = c.color } ∷ []) old new → SetsDots (circle_dot s c d ∷ []) old new
degree-painted s c d column row old new a b paints = rw (← a, ← b) paints
