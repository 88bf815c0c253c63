-- Places in rows of w elements.
use Rattle.std.proofs.Common.{◌≡◌, ℕ, ◌+◌, ◌*◌, ◌<◌, ◌≤◌, nat_lt, arith, inl, inr, ◌⊎◌, nat_le}
use Rattle.std.proofs.Math.Nat.{mul-le-mul_right}
use Rattle.std.proofs.lemmas.{Bool.cases_lt, Bool.Decides.nat_tests}

-- a row ends before each later one begins
pub row_ends : (w b y : ℕ) → b < y → b * w + w ≤ y * w
row_ends w b y lower = let e : (b + 1) * w ≤ y * w = mul-le-mul_right w (omega arith) in omega arith

-- rows one after the other
pub rows_join : (w b n : ℕ) → b * w + n * w ≡ (b + n) * w
rows_join w b n = grind arith

module _ (w x : ℕ) (x_in : x < w) where
  -- a place lies before a row exactly if its row does
  pub place_before : (y e : ℕ) → nat_lt (y * w + x) (e * w) ≡ nat_lt y e
  place_before y e = elim (cases_lt y e) [
    | inl above ↦ let p = row_ends w y e above in grind (arith, nat_tests)
    | inr past ↦ let p : e * w ≤ y * w = mul-le-mul_right w past in grind (arith, nat_tests)
  ]

  -- and so after it
  pub place_from : (y e : ℕ) → nat_le (e * w) (y * w + x) ≡ nat_le e y
  place_from y e = elim (cases_lt y e) [
    | inl above ↦ let p = row_ends w y e above in grind (arith, nat_tests)
    | inr past ↦ let p : e * w ≤ y * w = mul-le-mul_right w past in grind (arith, nat_tests)
  ]

-- what holds of rows before, after and at a row holds of all
pub by_rows : (P : Type 0) (w b y : ℕ) → (b < y → b * w + w ≤ y * w → P) → (y < b → y * w + w ≤ b * w → P) → (b ≡ y → P) → P
by_rows P w b y before after at = elim (cases_lt b y) [
  | inl lower ↦ before lower (row_ends w b y lower)
  | inr from ↦ elim (cases_lt y b) [
    | inl higher ↦ after higher (row_ends w y b higher)
    | inr to ↦ at (omega arith)
  ]
]

-- what is not in a part lies before it or after it
pub apart : (i from n : ℕ) → (from ≤ i → i < from + n → ⊥) → (i < from) ⊎ (from + n ≤ i)
apart i from n off = elim (cases_lt i from) [
  | inl before ↦ inl before
  | inr after ↦ elim (cases_lt i (from + n)) [
    | inl inside ↦ absurd (off after inside)
    | inr past ↦ inr past
  ]
]
