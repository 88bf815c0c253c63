-- Two lists are equal, item by item.
use Rattle.std.proofs.Common.{◌≡◌, ℕ, zero, suc, ◌<◌, Bool, true, ◌&&◌, List, [], ◌∷◌, length, get_or, nat_eq, refl, ap, arith}
use Rattle.std.proofs.lemmas.Bool.{false≢true, and_parts, and_from, Decides.nat_tests}
use Rattle.std.specs.Cmp.Lexicographic.{pointwise}
use Rattle.rtui_geometry.specs.{declared.rect.Rect.Rect, contracts.rect.RectEq.TheImpl.Laws.laws-law as rect_laws}
use Rattle.rtui_geometry.specs.contracts.rect.RectPartialEq.TheImpl as rect_equality

module _ {A : Type 0} (E : A → A → Bool) (d : A) where
  pub pointwise-count : (xs ys : List A) → pointwise E xs ys ≡ true → length xs ≡ length ys
  pointwise-count [] [] e = refl
  pointwise-count [] (y ∷ ys) e = absurd (false≢true e)
  pointwise-count (x ∷ xs) [] e = absurd (false≢true e)
  pointwise-count (x ∷ xs) (y ∷ ys) e = ap suc (pointwise-count xs ys (and_parts (E x y) (pointwise E xs ys) e).1)

  pub pointwise-at : (xs ys : List A) → pointwise E xs ys ≡ true → (k : ℕ) → k < length xs
      → E (get_or xs k d) (get_or ys k d) ≡ true
  pointwise-at [] [] e k lt = absurd (omega arith)
  pointwise-at [] (y ∷ ys) e k lt = absurd (false≢true e)
  pointwise-at (x ∷ xs) [] e k lt = absurd (false≢true e)
  pointwise-at (x ∷ xs) (y ∷ ys) e zero lt = (and_parts (E x y) (pointwise E xs ys) e).0
  pointwise-at (x ∷ xs) (y ∷ ys) e (suc k) lt = pointwise-at xs ys (and_parts (E x y) (pointwise E xs ys) e).1 k (omega arith)

  pub pointwise-from : (xs ys : List A) → length xs ≡ length ys
      → ((k : ℕ) → k < length xs → E (get_or xs k d) (get_or ys k d) ≡ true) → pointwise E xs ys ≡ true
  pointwise-from [] [] e all = refl
  pointwise-from [] (y ∷ ys) e all = absurd (omega arith)
  pointwise-from (x ∷ xs) [] e all = absurd (omega arith)
  pointwise-from (x ∷ xs) (y ∷ ys) e all = and_from (E x y) (pointwise E xs ys) (all 0 (omega arith))
      (pointwise-from xs ys (omega arith) (λ k lt. all (suc k) (omega arith)))

pub same_rect : (a b : Rect) → rect_equality.eq-value.it a b ≡ true → a ≡ b
same_rect a b e =
    let tests : (nat_eq a.x b.x && (nat_eq a.y b.y && (nat_eq a.width b.width && nat_eq a.height b.height))) ≡ true = e in
    let x : a.x ≡ b.x = grind (arith, nat_tests, tests) in
    let y : a.y ≡ b.y = grind (arith, nat_tests, tests) in
    let width : a.width ≡ b.width = grind (arith, nat_tests, tests) in
    let height : a.height ≡ b.height = grind (arith, nat_tests, tests) in
    rw (x, y, width, height) refl

pub rect_itself : (a b : Rect) → a ≡ b → rect_equality.eq-value.it a b ≡ true
rect_itself a b e = rw (← e) (rect_laws.refl a)
