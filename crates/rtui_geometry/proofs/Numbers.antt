-- The first and the last of the numbers from one up to another.
use Rattle.std.proofs.Common.{◌≡◌, ℕ, ◌+◌, ◌-◌, ◌<◌, ◌≤◌, [], ◌∷◌, ◌++◌, suc, zero, map, ap, ◌∙◌, arith}
use Rattle.std.specs.List.{range_with_len}
use Rattle.std.proofs.lemmas.{List.map-append, List.FromFn.length-map-range_with_len}

pub numbers_none : (from to : ℕ) → to ≤ from → range_with_len from (to - from) ≡ []
numbers_none from to h = let e : to - from ≡ 0 = omega arith in ap (range_with_len from) e

pub numbers_first : (from to : ℕ) → from < to → range_with_len from (to - from) ≡ from ∷ range_with_len (from + 1)
    (to - (from + 1))
numbers_first from to h = let e : to - from ≡ suc (to - (from + 1)) = omega arith in ap (range_with_len from) e

last_more : (n from : ℕ) → range_with_len from (suc n) ≡ range_with_len from n ++ (from + n) ∷ []
last_more zero from = let e : from ≡ from + 0 = omega arith in ap (λ x. x ∷ []) e
last_more (suc n) from =
    let e : from + 1 + n ≡ from + suc n = omega arith in
    ap (λ l. from ∷ l) (last_more n (from + 1) ∙ ap (λ x. range_with_len (from + 1) n ++ x ∷ []) e)

pub numbers_last : (from to : ℕ) → from < to → range_with_len from (to - from) ≡ range_with_len from (to - 1 - from) ++
    (to - 1) ∷ []
numbers_last from to h =
    let e : to - from ≡ suc (to - 1 - from) = omega arith in
    let last : from + (to - 1 - from) ≡ to - 1 = omega arith in
    ap (range_with_len from) e ∙ last_more (to - 1 - from) from ∙ ap (λ x. range_with_len from (to - 1 - from) ++ x ∷ []) last

module _ {X : Type 0} (f : ℕ → X) where
  pub map_none : (from to : ℕ) → to ≤ from → map f (range_with_len from (to - from)) ≡ []
  map_none from to h = ap (map f) (numbers_none from to h)

  pub map_first : (from to : ℕ) → from < to → map f (range_with_len from (to - from)) ≡ f from ∷ map f (range_with_len (from + 1)
      (to - (from + 1)))
  map_first from to h = ap (map f) (numbers_first from to h)

  pub map_last : (from to : ℕ) → from < to
      → map f (range_with_len from (to - from)) ≡ map f (range_with_len from (to - 1 - from)) ++ f (to - 1) ∷ []
  map_last from to h = ap (map f) (numbers_last from to h) ∙ map-append f (range_with_len from (to - 1 - from)) ((to - 1) ∷ [])

-- what is left of a list of rows or columns, from either end
pub ruleset ends = (map_none, map_first, map_last, length-map-range_with_len)
