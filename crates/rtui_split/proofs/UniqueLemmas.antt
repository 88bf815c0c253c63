-- There is one least ragged sharing of so much room.
use Rattle.std.proofs.Common.{ℕ, ◌≡◌, ◌<◌, ◌≤◌, ◌+◌, ◌-◌, inl, inr}
use Rattle.std.proofs.Common.{zero, suc, List, [], ◌∷◌, length, sum, slice_index, arith, ap₂, refl}
use Rattle.std.proofs.lemmas.{Bool.cases_lt, List.Elements.length_all_zip, List.Sums.sum_by-cons}
use Rattle.std.specs.List.{AllZip}
use Rattle.rtui_split.specs.Ragged.{Run, IsAtMost, ComesNoLater, IsLeastRagged}
use Rattle.rtui_split.proofs.RiseLemmas.{run_at, order_on, order_total, itself}
use Rattle.rtui_split.proofs.WalkLemmas.{each_at_most, sum_at_most}

-- lists of which each number is at most the other at its place, and less in a row of places
sum_less : (xs ys : List ℕ) (first after : ℕ) → AllZip IsAtMost xs ys
    → ((i : ℕ) → first ≤ i → i < after → slice_index xs i < slice_index ys i) → sum xs + (after - first) ≤ sum ys
sum_less [] [] first zero few less = omega arith
sum_less [] [] zero (suc after) few less = absurd (omega (arith, less 0 (omega arith) (omega arith)))
sum_less [] [] (suc first) (suc after) few less = elim (cases_lt first after) [
  | inl more ↦ absurd (omega (arith, less (suc first) (omega arith) (omega (arith, more))))
  | inr none ↦ omega (arith, none)
]
sum_less (x ∷ xs) (y ∷ ys) first zero few less = omega (arith, sum_at_most (x ∷ xs) (y ∷ ys) few)
sum_less (x ∷ xs) (y ∷ ys) zero (suc after) few less =
    let rest = sum_less xs ys 0 after few.1 (λ i from to. less (suc i) (omega arith) (omega (arith, to))) in
    simp sum_by-cons (omega (arith, less 0 (omega arith) (omega arith), rest))
sum_less (x ∷ xs) (y ∷ ys) (suc first) (suc after) few less =
    let rest = sum_less xs ys first after few.1 (λ i from to. less (suc i) (omega (arith, from)) (omega (arith, to))) in
    simp sum_by-cons (omega (arith, few.0, rest))
sum_less _ _ first after few less = absurd few

at_most_at : (xs ys : List ℕ) → AllZip IsAtMost xs ys → (i : ℕ) → slice_index xs i ≤ slice_index ys i
at_most_at [] [] few i = omega arith
at_most_at (x ∷ xs) (y ∷ ys) few zero = few.0
at_most_at (x ∷ xs) (y ∷ ys) few (suc i) = at_most_at xs ys few.1 i
at_most_at _ _ few i = absurd few

both_at_most : (xs ys : List ℕ) → AllZip IsAtMost xs ys → AllZip IsAtMost ys xs → xs ≡ ys
both_at_most [] [] few many = refl
both_at_most (x ∷ xs) (y ∷ ys) few many =
    let same : x ≡ y = omega (arith, few.0, many.0) in
    ap₂ (λ z zs. z ∷ zs) same (both_at_most xs ys few.1 many.1)
both_at_most _ _ few many = absurd few

module _ (ws standing : List ℕ) (room : ℕ) where
  -- who has no room earlier has no more
  earlier_less : (xs ys : List ℕ) (end last : Run) → IsLeastRagged ws standing room xs end
      → IsLeastRagged ws standing room ys last → ComesNoLater standing end last → (i : ℕ) → slice_index xs i ≤ slice_index ys i
  earlier_less xs ys end last one two order i = elim (cases_lt (slice_index ys i) (slice_index xs i)) [
    | inl more ↦
        let found = run_at ws (slice_index ys i) i (omega (arith, more, at_most_at xs ws one.within i)) in
        let r = found.0 in
        let here = found.2 in
        let before : ComesNoLater standing last r → ⊥ = λ late.
        let none = one.later r found.1 (order_on ws standing end last r one.run two.run found.1 order late) in
        absurd (omega (arith, more, found.3, none i here.0 here.1)) in
        absurd (omega (arith, found.3, two.risen r found.1 before i here.0 here.1))
    | inr no_more ↦ no_more
  ]

  long : (xs ys : List ℕ) (end last : Run) → IsLeastRagged ws standing room xs end → IsLeastRagged ws standing room ys last
      → length xs ≡ length ys
  long xs ys end last one two =
      omega (arith, length_all_zip IsAtMost xs ws one.within, length_all_zip IsAtMost ys ws two.within)

  -- the first run that has no room in one has none in the other
  no_earlier : (xs ys : List ℕ) (end last : Run) → IsLeastRagged ws standing room xs end → IsLeastRagged ws standing room ys last
      → ComesNoLater standing end last → (ComesNoLater standing last end → ⊥) → ⊥
  no_earlier xs ys end last one two order before =
      let few = each_at_most xs ys (long xs ys end last one two) (earlier_less xs ys end last one two order) in
      let less = sum_less xs ys end.first end.after few (λ i from to. omega (
        arith,
        two.risen end one.run before i from to,
        one.later end one.run (itself standing end) i from to,
      )) in
      omega (arith, less, one.full, two.fits)

  no_more : (xs ys : List ℕ) (end last : Run) → IsLeastRagged ws standing room xs end → IsLeastRagged ws standing room ys last
      → AllZip IsAtMost xs ys
  no_more xs ys end last one two =
      let not_later : (ComesNoLater standing end last → ⊥) → ⊥ = λ later.
      no_earlier ys xs last end two one (order_total standing end last later) later in
      each_at_most xs ys (long xs ys end last one two) (λ i. elim (cases_lt (slice_index ys i) (slice_index xs i)) [
        | inl more ↦ absurd (not_later (λ order. omega (arith, more, earlier_less xs ys end last one two order i)))
        | inr few ↦ few
      ])

  pub one_sharing : (xs ys : List ℕ) (end last : Run) → IsLeastRagged ws standing room xs end
      → IsLeastRagged ws standing room ys last → xs ≡ ys
  one_sharing xs ys end last one two =
      both_at_most xs ys (no_more xs ys end last one two) (no_more ys xs last end two one)
