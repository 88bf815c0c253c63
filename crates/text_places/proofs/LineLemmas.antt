-- In which lines and rows walks go, and of which lines they depend.
use Rattle.std.proofs.Common.{◌≡◌, ℕ, zero, suc, ◌+◌, ◌-◌, ◌<◌, ◌≤◌, Bool, true, false, nat_lt, if◌then◌else◌, refl, ap, ◌∙◌, arith}
use Rattle.std.proofs.lemmas.Bool.Decides.{nat_tests}
use Rattle.text_places.specs.declared.place.Place.{Place}
use Rattle.text_places.specs.Places.{text_place, next_place, previous_place, places_after, places_before}

module _ (rows : ℕ → ℕ) where
  next-line : (q : Place) → (next_place rows q).line ≤ q.line + 1
  next-line q = by (nat_lt (q.row + 1) (rows q.line))
    where
      by : (b : Bool) → (if b then text_place q.line (q.row + 1) else text_place (q.line + 1) 0).line ≤ q.line + 1
      by true = omega arith
      by false = omega arith

  pub after-line : (n : ℕ) (q : Place) → (places_after rows n q).line ≤ q.line + n
  unfolding places_after
  after-line zero q = omega arith
  after-line (suc n) q = omega (arith, next-line (places_after rows n q), after-line n q)

  previous-line : (q : Place) → (previous_place rows q).line ≤ q.line
  previous-line q = by (nat_lt 0 q.row) (nat_lt 0 q.line)
    where
      by : (a b : Bool) → (if a then text_place q.line (q.row - 1)
          else if b then text_place (q.line - 1) (rows (q.line - 1) - 1) else q).line ≤ q.line
      by true b = omega arith
      by false true = omega arith
      by false false = omega arith

  previous-low : (q : Place) → q.line ≤ (previous_place rows q).line + 1
  previous-low q = by (nat_lt 0 q.row) (nat_lt 0 q.line)
    where
      by : (a b : Bool) → q.line ≤ (if a then text_place q.line (q.row - 1)
          else if b then text_place (q.line - 1) (rows (q.line - 1) - 1) else q).line + 1
      by true b = omega arith
      by false true = omega arith
      by false false = omega arith

  pub before-line : (n : ℕ) (q : Place) → (places_before rows n q).line ≤ q.line
  unfolding places_before
  before-line zero q = omega arith
  before-line (suc n) q = omega (arith, previous-line (places_before rows n q), before-line n q)

  pub before-low : (n : ℕ) (q : Place) → q.line ≤ (places_before rows n q).line + n
  unfolding places_before
  before-low zero q = omega arith
  before-low (suc n) q = omega (arith, previous-low (places_before rows n q), before-low n q)

-- each line takes at most so many rows
module _ (rows : ℕ → ℕ) (most : ℕ) (each : (line : ℕ) → rows line ≤ most) where
  pub next-row : (q : Place) → 0 < most → (next_place rows q).row < most
  next-row q some = by (nat_lt (q.row + 1) (rows q.line)) refl
    where
      by : (b : Bool) → nat_lt (q.row + 1) (rows q.line) ≡ b
          → (if b then text_place q.line (q.row + 1) else text_place (q.line + 1) 0).row < most
      by true is = let lt : q.row + 1 < rows q.line = grind (arith, nat_tests, is) in omega (arith, lt, each q.line)
      by false is = some

  pub after-row : (n : ℕ) (q : Place) → q.row < most → (places_after rows n q).row < most
  unfolding places_after
  after-row zero q lt = lt
  after-row (suc n) q lt = next-row (places_after rows n q) (omega (arith, lt))

  previous-row : (q : Place) → q.row < most → (previous_place rows q).row < most
  previous-row q lt = by (nat_lt 0 q.row) (nat_lt 0 q.line)
    where
      by : (a b : Bool) → (if a then text_place q.line (q.row - 1)
          else if b then text_place (q.line - 1) (rows (q.line - 1) - 1) else q).row < most
      by true b = omega (arith, lt)
      by false true = omega (arith, lt, each (q.line - 1))
      by false false = lt

  pub before-row : (n : ℕ) (q : Place) → q.row < most → (places_before rows n q).row < most
  unfolding places_before
  before-row zero q lt = lt
  before-row (suc n) q lt = previous-row (places_before rows n q) (before-row n q lt)

-- two texts whose lines before one take as many rows
module _ (rows others : ℕ → ℕ) (end : ℕ) (same : (line : ℕ) → line < end → others line ≡ rows line) where
  next-same : (q : Place) → q.line < end → next_place others q ≡ next_place rows q
  next-same q lt =
      ap (λ n. if nat_lt (q.row + 1) n then text_place q.line (q.row + 1) else text_place (q.line + 1) 0) (same q.line lt)

  pub after-same : (n : ℕ) (q : Place) → q.line + n ≤ end → places_after others n q ≡ places_after rows n q
  unfolding places_after
  after-same zero q le = refl
  after-same (suc n) q le =
      ap (next_place others) (after-same n q (omega (arith, le)))
      ∙ next-same (places_after rows n q) (omega (arith, le, after-line rows n q))

  previous-same : (q : Place) → q.line ≤ end → previous_place others q ≡ previous_place rows q
  previous-same q le = by (nat_lt 0 q.line) refl
    where
      by : (b : Bool) → nat_lt 0 q.line ≡ b
          → (if nat_lt 0 q.row then text_place q.line (q.row - 1)
          else if b then text_place (q.line - 1) (others (q.line - 1) - 1) else q)
          ≡ (if nat_lt 0 q.row then text_place q.line (q.row - 1)
          else if b then text_place (q.line - 1) (rows (q.line - 1) - 1) else q)
      by true is =
          let some : 0 < q.line = grind (arith, nat_tests, is) in
          ap (λ n. if nat_lt 0 q.row then text_place q.line (q.row - 1) else text_place (q.line - 1) (n - 1))
          (same (q.line - 1) (omega (arith, some, le)))
      by false is = refl

  pub before-same : (n : ℕ) (q : Place) → q.line ≤ end → places_before others n q ≡ places_before rows n q
  unfolding places_before
  before-same zero q le = refl
  before-same (suc n) q le =
      ap (previous_place others) (before-same n q le)
      ∙ previous-same (places_before rows n q) (omega (arith, le, before-line rows n q))
