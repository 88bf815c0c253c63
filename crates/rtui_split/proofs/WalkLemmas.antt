-- What the walks over parts and notes find and write.
use Rattle.std.specs.List.{AllZip}
use Rattle.std.proofs.Common.{ℕ, ◌≡◌, ◌<◌, ◌≤◌, ◌+◌, ◌≢◌, ◌⊎◌, inl, inr, zero, suc, List, [], ◌∷◌, All, length, sum, Option}
use Rattle.std.proofs.Common.{None, Some, MatchOption, set, slice_index, refl, sym, ◌∙◌, ap, subst, arith}
use Rattle.std.proofs.lemmas.{Bool.cases_lt, Bool.Decides.nat_tests, List.length-map, List.get_or-set_same, List.get_or-set_other}
use Rattle.std.proofs.lemmas.{List.Sums.sum_by-cons, List.Sums.sum_by-set, List.Elements.All-head, List.Elements.All-tail}
use Rattle.rtui_split.specs.Ragged.{Run, IsAtMost, IsRunOf, ComesNoLater}
use Rattle.rtui_split.specs.Inner.Slots.{if_in, if_before, wishes_of, heights_of, sizes_of}
use Rattle.rtui_split.specs.Inner.Runs.{as_run, IsFirstRun, StartsAt}
use Rattle.rtui_split.specs.declared.{part.Part.Part, slot.Slot.Slot}
use Rattle.rtui_split.proofs.RunLemmas.{IsIn, AreApart, within_list, order_nested}
use Rattle.rtui_split.proofs.{SlotLemmas.sizes_set, RiseLemmas.order_on}
use Rattle.rtui_split.specs.declared.smooth.Run as coded

-- who is of this turn isn't of an earlier one
one_apart : (t : ℕ) (p : Part) → 0 < if_in t p → if_before t p ≡ 0
one_apart t p some = grind (arith, nat_tests, some)

apart_at : (t : ℕ) (ss : List Slot) (i : ℕ) → 0 < slice_index (wishes_of t ss) i → slice_index (heights_of t ss) i ≡ 0
apart_at t [] i some = refl
apart_at t (s ∷ ss) zero some = one_apart t s.part some
apart_at t (s ∷ ss) (suc i) some = apart_at t ss i some

pub apart : (t : ℕ) (ss : List Slot) → AreApart (wishes_of t ss) (heights_of t ss)
apart t ss =
    (length-map ss (λ (s : Slot). if_before t s.part) ∙ sym (length-map ss (λ (s : Slot). if_in t s.part)), apart_at t ss)

-- one size written
sizes_same : (ss : List Slot) (i : ℕ) (s : Slot) → i < length ss → slice_index (sizes_of (set ss i s)) i ≡ s.size
sizes_same ss i s within = ap (λ xs. slice_index xs i) (sizes_set ss i s)
    ∙ get_or-set_same (sizes_of ss) i s.size 0 (omega (arith, within, length-map ss (λ (r : Slot). r.size)))

pub sizes_other : (ss : List Slot) (i k : ℕ) (s : Slot) → k ≢ i
    → slice_index (sizes_of (set ss i s)) k ≡ slice_index (sizes_of ss) k
sizes_other ss i k s other = ap (λ xs. slice_index xs k) (sizes_set ss i s)
    ∙ get_or-set_other (sizes_of ss) i k s.size 0 other

pub sizes_sum : (ss : List Slot) (i : ℕ) (s : Slot) → i < length ss
    → sum (sizes_of (set ss i s)) + slice_index (sizes_of ss) i ≡ sum (sizes_of ss) + s.size
sizes_sum ss i s within = ap (λ xs. sum xs + slice_index (sizes_of ss) i) (sizes_set ss i s)
    ∙ sum_by-set (λ n. n) (sizes_of ss) i s.size 0 (omega (arith, within, length-map ss (λ (r : Slot). r.size)))

pub sizes_inside : (ss : List Slot) (i h first k : ℕ) (s : Slot) → i < length ss → s.size ≡ h
    → ((j : ℕ) → first ≤ j → j < i → slice_index (sizes_of ss) j ≡ h) → first ≤ k → k < i + 1
    → slice_index (sizes_of (set ss i s)) k ≡ h
sizes_inside ss i h first k s within own before from to = elim (cases_lt k i) [
  | inl less ↦ sizes_other ss i k s (λ same. absurd (omega (arith, less, same))) ∙ before k from less
  | inr last ↦
      let P : ℕ → Type 0 = λ n. slice_index (sizes_of (set ss i s)) n ≡ h in
      let same : i ≡ k = omega (arith, last, to) in
      subst P same (sizes_same ss i s within ∙ own)
]

-- nobody tries anything
pub tries_nothing : (ss : List Slot) → All (λ (r : Slot). r.size ≡ 0) ss → (i : ℕ) → slice_index (sizes_of ss) i ≡ 0
tries_nothing [] nothing i = refl
tries_nothing (s ∷ ss) nothing zero = All-head (λ (r : Slot). r.size ≡ 0) s ss nothing
tries_nothing (s ∷ ss) nothing (suc i) = tries_nothing ss (All-tail (λ (r : Slot). r.size ≡ 0) s ss nothing) i

pub sum_of_nothing : (ss : List Slot) → All (λ (r : Slot). r.size ≡ 0) ss → sum (sizes_of ss) ≡ 0
sum_of_nothing [] nothing = refl
sum_of_nothing (s ∷ ss) nothing =
    let P : Slot → Type 0 = λ r. r.size ≡ 0 in
    simp sum_by-cons (omega (arith, All-head P s ss nothing, sum_of_nothing ss (All-tail P s ss nothing)))

-- lists of numbers of which each is at most the other at its place
pub each_at_most : (xs ys : List ℕ) → length xs ≡ length ys → ((i : ℕ) → slice_index xs i ≤ slice_index ys i)
    → AllZip IsAtMost xs ys
each_at_most [] [] long few = tt
each_at_most (x ∷ xs) (y ∷ ys) long few = (few 0, each_at_most xs ys (omega (arith, long)) (λ i. few (suc i)))
each_at_most _ _ long few = absurd (omega (arith, long))

pub sum_at_most : (xs ys : List ℕ) → AllZip IsAtMost xs ys → sum xs ≤ sum ys
sum_at_most [] [] few = omega arith
sum_at_most (x ∷ xs) (y ∷ ys) few = simp sum_by-cons (omega (arith, few.0, sum_at_most xs ys few.1))
sum_at_most _ _ few = absurd few

abbrev pub NoneBefore : List ℕ → List ℕ → ℕ → Type 0
NoneBefore ws xs to = (r : Run) → IsRunOf ws r → r.first < to → slice_index xs r.first ≡ r.height → ⊥

-- a run that begins here at its height is one more
later_or_here : (ws standing xs : List ℕ) (new r : Run) (i : ℕ) → AreApart ws standing → IsRunOf ws new → IsRunOf ws r
    → r.first ≡ i → r.height ≡ slice_index xs i → ComesNoLater standing new r
    → ((s : Run) → IsRunOf ws s → s.first < i → slice_index xs s.first ≡ s.height → ComesNoLater standing new s)
    → (s : Run) → IsRunOf ws s → s.first < i + 1 → slice_index xs s.first ≡ s.height → ComesNoLater standing new s
later_or_here ws standing xs new r i apart fresh run at high order before s other from stands = elim (cases_lt s.first i) [
  | inl less ↦ before s other less stands
  | inr last ↦
      let same : i ≡ s.first = omega (arith, last, from) in
      let P : ℕ → Type 0 = λ n. slice_index xs n ≡ s.height in
      let some = run.some in
      let any = other.some in
      let here : IsIn r i = (omega (arith, at), omega (arith, at)) in
      let there : IsIn s i = (omega (arith, same), omega (arith, same)) in
      order_on ws standing new r s fresh run other order
      (order_nested ws standing apart r s i run other here there
      (omega (arith, high, subst P (sym same) stands)))
]

pub next_more : (ws standing xs : List ℕ) (best : Option coded.Run) (r new : coded.Run) (i : ℕ)
    → AreApart ws standing → IsRunOf ws (as_run r) → r.first ≡ i → r.height ≡ slice_index xs i
    → ComesNoLater standing (as_run new) (as_run r)
    → MatchOption best (new ≡ r) (λ other. ComesNoLater standing (as_run new) (as_run other) × ((new ≡ r) ⊎ (new ≡ other)))
    → MatchOption best (NoneBefore ws xs i) (λ t. IsFirstRun ws standing xs i (as_run t))
    → IsFirstRun ws standing xs (i + 1) (as_run new)
next_more ws standing xs None r new i apart run at high order is before =
    let P : coded.Run → Type 0 = λ t. IsRunOf ws (as_run t) in
    let Q : coded.Run → Type 0 = λ t. slice_index xs t.first ≡ t.height in
    let R : ℕ → Type 0 = λ n. slice_index xs n ≡ r.height in
    let fresh : IsRunOf ws (as_run new) = subst P (sym is) run in
    record {
      run = fresh;
      stands = subst Q (sym is) (subst R (sym at) (sym high));
      first = later_or_here ws standing xs (as_run new) (as_run r) i apart fresh run at high order
          (λ s other from stands. absurd (before s other from stands));
    }
next_more ws standing xs (Some best) r new i apart run at high order is before =
    let P : coded.Run → Type 0 = λ t. IsRunOf ws (as_run t) in
    let Q : coded.Run → Type 0 = λ t. slice_index xs t.first ≡ t.height in
    let R : ℕ → Type 0 = λ n. slice_index xs n ≡ r.height in
    let fresh : IsRunOf ws (as_run new) = elim is.1 [
      | inl now ↦ subst P (sym now) run
      | inr old ↦ subst P (sym old) before.run
    ] in
    record {
      run = fresh;
      stands = elim is.1 [
        | inl now ↦ subst Q (sym now) (subst R (sym at) (sym high))
        | inr old ↦ subst Q (sym old) before.stands
      ];
      first = later_or_here ws standing xs (as_run new) (as_run r) i apart fresh run at high order
          (λ s other from stands. order_on ws standing (as_run new) (as_run best) s fresh before.run other is.0
          (before.first s other from stands));
    }

-- no run begins here at its height
none_here : (ws xs : List ℕ) (i : ℕ) → (StartsAt ws (slice_index xs i) i → ⊥) → (s : Run) → IsRunOf ws s → s.first < i + 1
    → slice_index xs s.first ≡ s.height → s.first < i
none_here ws xs i none s run from stands = elim (cases_lt s.first i) [
  | inl less ↦ less
  | inr last ↦
      let same : s.first ≡ i = omega (arith, last, from) in
      let P : ℕ → Type 0 = λ n. StartsAt ws (slice_index xs n) n in
      let some = run.some in
      absurd (none (subst P same (
        omega (arith, stands, run.wish s.first (omega arith) (omega arith)),
        λ j next. omega (arith, stands, run.before j next),
      )))
]

pub next_same : (ws standing xs : List ℕ) (best : Option coded.Run) (i : ℕ) → (StartsAt ws (slice_index xs i) i → ⊥)
    → MatchOption best (NoneBefore ws xs i) (λ t. IsFirstRun ws standing xs i (as_run t))
    → MatchOption best (NoneBefore ws xs (i + 1)) (λ t. IsFirstRun ws standing xs (i + 1) (as_run t))
next_same ws standing xs None i none before = λ s run from stands.
    before s run (none_here ws xs i none s run from stands) stands
next_same ws standing xs (Some best) i none before = record {
  run = before.run;
  stands = before.stands;
  first = λ s run from stands. before.first s run (none_here ws xs i none s run from stands) stands;
}

-- no run begins ended the last part
pub next_out : (ws standing xs : List ℕ) (best : Option coded.Run) (i n : ℕ) → n ≤ i → length ws ≡ n
    → MatchOption best (NoneBefore ws xs i) (λ t. IsFirstRun ws standing xs i (as_run t))
    → MatchOption best ((r : Run) → IsRunOf ws r → slice_index xs r.first ≡ r.height → ⊥)
    (λ t. IsFirstRun ws standing xs n (as_run t))
next_out ws standing xs None i n out long before = λ s run stands.
    before s run (omega (arith, out, long, run.some, within_list ws s run)) stands
next_out ws standing xs (Some best) i n out long before = record {
  run = before.run;
  stands = before.stands;
  first = λ s run from stands. before.first s run (omega (arith, from, out)) stands;
}
