-- The table of cosines, by computing.
use Rattle.std.proofs.Common.{◌≡◌, ◌≤◌, ◌<◌, ◌+◌, ◌-◌, ◌*◌, ◌&&◌, ℕ, zero, suc, Bool, true, slice_index, refl, inl, inr}
use Rattle.std.proofs.Common.{nat_le, nat_lt, if◌then◌else◌, arith, ap, ◌∙◌, sym}
use Rattle.std.proofs.lemmas.Bool.{and_parts, leb-true, ltb-true, le-leb}
use Rattle.std.proofs.Math.Nat.{eq-or-lt_of_le}
use Rattle.rtui_dots.specs.declared.circle.TheConstants.{COSINES}
use Rattle.rtui_dots.specs.Circles.{billion}
use Rattle.rtui_dots.specs.Cosines.{apart, AreCosines}

-- a test of each number below another
all_below : ℕ → (ℕ → Bool) → Bool
all_below zero p = true
all_below (suc n) p = p n && all_below n p

tested : (n d : ℕ) (p : ℕ → Bool) → all_below n p ≡ true → d < n → p d ≡ true
unfolding all_below
tested zero d p t lt = absurd (omega arith)
tested (suc n) d p t lt =
    let parts = and_parts (p n) (all_below n p) t in
    let le : d ≤ n = omega arith in
    elim (eq-or-lt_of_le le) [
      | inl e ↦ ap p e ∙ parts.0
      | inr less ↦ tested n d p parts.1 less
    ]

-- whether a sum is that of two cosines
adds_up : ℕ → ℕ → Bool
adds_up a b = nat_le (apart ((slice_index COSINES (a + b) + slice_index COSINES (a - b)) * billion)
    (2 * slice_index COSINES a * slice_index COSINES b)) (3 * billion)

-- the same if there are such cosines
adds_up_if : ℕ → ℕ → Bool
adds_up_if a b = if nat_le b a then (if nat_le (a + b) 90 then adds_up a b else true) else true

all_add_up : all_below 91 (λ a. all_below 46 (adds_up_if a)) ≡ true
unfolding all_below adds_up_if adds_up
all_add_up = refl

are_between : all_below 90 (λ d. nat_lt 0 (slice_index COSINES d)) ≡ true
unfolding all_below
are_between = refl

it_adds_up : (a b : ℕ) → b ≤ a → a + b ≤ 90 → adds_up a b ≡ true
unfolding adds_up_if
it_adds_up a b le within =
    let one = tested 46 b (adds_up_if a) (tested 91 a (λ n. all_below 46 (adds_up_if n)) all_add_up (omega arith)) (omega arith) in
    let first : adds_up_if a b ≡ (if nat_le (a + b) 90 then adds_up a b else true) =
    ap (λ t. if t then (if nat_le (a + b) 90 then adds_up a b else true) else true) (le-leb b a le) in
    let second : (if nat_le (a + b) 90 then adds_up a b else true) ≡ adds_up a b =
    ap (λ t. if t then adds_up a b else true) (le-leb (a + b) 90 within) in
    sym (first ∙ second) ∙ one

pub the_table : AreCosines COSINES
unfolding adds_up
the_table = record {
  first = refl;
  last = refl;
  between = λ d lt. ltb-true 0 (slice_index COSINES d) (tested 90 d (λ k. nat_lt 0 (slice_index COSINES k)) are_between lt);
  sums = λ a b le within. leb-true _ _ (it_adds_up a b le within);
}
