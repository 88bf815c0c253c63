-- The elements of a list from one on; and lists made of a range of numbers: what each element has, which elements come, and in
-- what order.
use Rattle.std.proofs.Common.{◌≡◌, ℕ, ◌+◌, ◌-◌, ◌<◌, ◌≤◌, List, [], ◌∷◌, ◌++◌, suc, zero, get_or, map, refl, sym, ap, ◌∙◌, arith}
use Rattle.std.proofs.Common.{length, drop, subst, inl, inr}
use Rattle.std.proofs.lemmas.List.{drop_more}
use Rattle.std.specs.List.{range_with_len, flat_map, All, AllPairs, Contains}
use Rattle.std.proofs.lemmas.List.Elements.{All-nil, All-head, All-tail, All-append, Contains-append_left, Contains-append_right}
use Rattle.std.proofs.Math.Nat.{eq-or-lt_of_le}
use Rattle.std.proofs.lemmas.{List.Kept.AllPairs-cons, List.FromFn.get_or-map-range_with_len}
use Rattle.std.proofs.lemmas.{List.FromFn.length-map-range_with_len}

pub element-next : {X : Type 0} (xs : List X) (k : ℕ) (x : X) → k < length xs → x ≡ get_or xs k x
    → drop k xs ≡ x ∷ drop (k + 1) xs
element-next xs k x lt is = drop_more xs k x lt ∙ ap (λ y. y ∷ drop (k + 1) xs) (sym is)

module _ {X : Type 0} (f : ℕ → X) where
  -- each element is f of a number of the range
  pub All-map_range : (P : X → Type 0) (a n : ℕ) → ((k : ℕ) → a ≤ k → k < a + n → P (f k)) → All P (map f (range_with_len a n))
  All-map_range P a n h = λ i d lt.
      let inside : i < n = omega (arith, length-map-range_with_len f a n) in
      rw (get_or-map-range_with_len f a n i (a + i) d inside refl) (h (a + i) (omega arith) (omega arith))

  -- f of each number of the range comes
  pub Contains-map_range : (a n k : ℕ) → a ≤ k → k < a + n → Contains (map f (range_with_len a n)) (f k)
  Contains-map_range a n k low high = (
    k - a,
    omega (arith, length-map-range_with_len f a n),
    get_or-map-range_with_len f a n (k - a) k (f k) (omega arith)
        (omega arith),
  )

  -- the elements stand in order if f keeps the order
  pub AllPairs-map_range : (R : X → X → Type 0) (a n : ℕ) → ((k l : ℕ) → k < l → R (f k) (f l))
      → AllPairs R (map f (range_with_len a n))
  AllPairs-map_range R a n h = λ i j d lt last.
      let inside : j < n = omega (arith, length-map-range_with_len f a n) in
      let before : i < n = omega arith in
      rw (get_or-map-range_with_len f a n i (a + i) d before refl, get_or-map-range_with_len f a n j (a + j) d inside refl)
      (h (a + i) (a + j) (omega arith))

AllPairs-tail : {X : Type 0} (R : X → X → Type 0) (x : X) (xs : List X) → AllPairs R (x ∷ xs) → AllPairs R xs
AllPairs-tail R x xs h = λ i j d lt last. h (suc i) (suc j) d (omega arith) (omega arith)

All-first : {X : Type 0} (R : X → X → Type 0) (x : X) (xs : List X) → AllPairs R (x ∷ xs) → All (R x) xs
All-first R x xs h = λ i d lt. h 0 (suc i) d (omega arith) (omega arith)

-- two lists in order, one before the other, are in order together
pub AllPairs-append : {X : Type 0} (R : X → X → Type 0) (xs ys : List X) → AllPairs R xs → AllPairs R ys
    → All (λ x. All (R x) ys) xs → AllPairs R (xs ++ ys)
AllPairs-append R [] ys hx hy h = hy
AllPairs-append R (x ∷ xs) ys hx hy h =
    AllPairs-cons R x (xs ++ ys)
    (All-append (R x) xs ys (All-first R x xs hx) (All-head (λ z. All (R z) ys) x xs h))
    (AllPairs-append R xs ys (AllPairs-tail R x xs hx) hy (All-tail (λ z. All (R z) ys) x xs h))

module _ {X : Type 0} (f : ℕ → List X) where
  -- what each element of each piece has, each element of the whole has
  pub All-flat_map_range : (P : X → Type 0) (a n : ℕ) → ((k : ℕ) → a ≤ k → k < a + n → All P (f k))
      → All P (flat_map f (range_with_len a n))
  All-flat_map_range P a zero h = All-nil P
  All-flat_map_range P a (suc n) h =
      All-append P (f a) (flat_map f (range_with_len (a + 1) n)) (h a (omega arith) (omega arith))
      (All-flat_map_range P (a + 1) n (λ k low high. h k (omega arith) (omega arith)))

  -- an element of a piece is one of the whole
  pub Contains-flat_map_range : (a n k : ℕ) (x : X) → a ≤ k → k < a + n → Contains (f k) x
      → Contains (flat_map f (range_with_len a n)) x
  Contains-flat_map_range a zero k x low high h = absurd (omega arith)
  Contains-flat_map_range a (suc n) k x low high h =
      let more = flat_map f (range_with_len (a + 1) n) in
      elim (eq-or-lt_of_le low) [
        | inl e ↦ Contains-append_left (f a) more x (subst (λ m. Contains (f m) x) (sym e) h)
        | inr l ↦ Contains-append_right (f a) more x (Contains-flat_map_range (a + 1) n k x (omega arith) (omega arith) h)
      ]

  -- the whole is in order if each piece is, and each piece comes before the later ones
  pub AllPairs-flat_map_range : (R : X → X → Type 0) → ((k : ℕ) → AllPairs R (f k))
      → ((k l : ℕ) → k < l → All (λ x. All (R x) (f l)) (f k))
      → (a n : ℕ) → AllPairs R (flat_map f (range_with_len a n))
  AllPairs-flat_map_range R within across a zero = λ i j d lt last. absurd (omega arith)
  AllPairs-flat_map_range R within across a (suc n) =
      AllPairs-append R (f a) (flat_map f (range_with_len (a + 1) n)) (within a)
      (AllPairs-flat_map_range R within across (a + 1) n)
      (λ i d lt. All-flat_map_range (R (get_or (f a) i d)) (a + 1) n (λ k low high. across a k (omega arith) i d lt))
