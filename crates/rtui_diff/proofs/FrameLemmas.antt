-- Places of a list by the rows of a frame.
use Rattle.std.proofs.Common.{◌≡◌, ℕ, zero, suc, ◌+◌, ◌-◌, ◌*◌, ◌/◌, ◌%◌, ◌<◌, ◌≤◌, List, refl, ap, ◌∙◌, arith, inl, inr}
use Rattle.std.proofs.Common.{mul_comm, add-one, length, get_or}
use Rattle.std.proofs.lemmas.Nat.{div_below, mod_below, div-add-mod', div-mul-add, mod-mul-add, row_fits}
use Rattle.std.proofs.Math.Nat.{mul-le-mul_left, mul-le-mul_right}
use Rattle.std.proofs.lemmas.{Bool.cases_lt, List.get_or_default}
use Rattle.rtui_cell.specs.{declared.cell.Cell.Cell, Cell.empty_cell}
use Rattle.rtui_diff.specs.{Cells.cell, Updates.update_at}

module _ (w h : ℕ) where
  -- the place of column a in row b lies in its row
  pub row_start : (i : ℕ) → i / w * w + i % w ≡ i
  row_start i = div-add-mod' i w

  pub row_end : (b : ℕ) → b < h → b * w + w ≤ w * h
  row_end b lt = let e : h * w ≡ w * h = mul_comm h w in let f : b * w + w ≤ h * w = row_fits b w h w lt (omega arith) in
      omega arith

  pub column_in : (i : ℕ) → i < w * h → i % w < w
  column_in i lt = mod_below i w (positive w lt)
    where
      positive : (v : ℕ) → i < v * h → 0 < v
      positive zero a = absurd (omega arith)
      positive (suc v) a = omega arith

  pub row_in : (i : ℕ) → i < w * h → i / w < h
  row_in i lt = let p : i % w < w = column_in i lt in let e : w * h ≡ h * w = mul_comm w h in
      div_below i w h (omega arith) (omega arith)

-- ---- rows that are counted as a walk comes to them

row_below : (i j w : ℕ) → i * w < w * j → i < j
row_below i j w lt = elim (cases_lt i j) [
  | inl below ↦ below
  | inr past ↦ let e : w * j ≡ j * w = mul_comm w j in let f : j * w ≤ i * w = mul-le-mul_right w past in absurd (omega arith)
]

-- the next row's place
pub next_row : (start i w at : ℕ) → start ≡ i * w → start + w ≤ at → at < w * 65536 → (start + w ≡ (i + 1) * w) × (i + 1 < 65536)
next_row start i w at e le lt =
    let next : (i + 1) * w ≡ i * w + w = (let one : suc i * w ≡ i * w + w = omega arith in rw add-one one) in
    (omega arith, row_below (i + 1) 65536 w (omega arith))

-- a place by its row
pub by_row : (start i w at : ℕ) → start ≡ i * w → start ≤ at → at < start + w → (at % w ≡ at - start) × (at / w ≡ i)
by_row start i w at e le lt =
    let inside : at - start < w = omega arith in
    let whole : at ≡ i * w + (at - start) = omega arith in
    (ap (λ n. n % w) whole ∙ mod-mul-add i w (at - start) inside, ap (λ n. n / w) whole ∙ div-mul-add i w (at - start) inside)

pub row_in_frame : (start i w h at : ℕ) → start ≡ i * w → start ≤ at → at < w * h → i < h
row_in_frame start i w h at e le lt = row_below i h w (omega arith)

pub in_many_rows : (w h at : ℕ) → h ≤ 65536 → at < w * h → at < w * 65536
in_many_rows w h at le lt = let f : w * h ≤ w * 65536 = mul-le-mul_left w le in omega arith

pub ruleset row_rules = (next_row, by_row, row_in_frame, in_many_rows)

-- the update at a place, by its row
pub update_by_row : (x0 y0 w start i at : ℕ) (ns : List Cell) (c d : Cell) → start ≡ i * w → start ≤ at → at < start + w
    → at < length ns → c ≡ get_or ns at d
    → record { x = x0 + (at - start); y = y0 + i; cell = c } ≡ update_at x0 y0 w ns at
update_by_row x0 y0 w start i at ns c d e le lt inside is =
    let by = by_row start i w at e le lt in
    let same : c ≡ cell ns at = is ∙ get_or_default ns at d empty_cell inside in
    rw (by.0, by.1, same) refl
