-- Rows made anew, one after the other.
use Rattle.std.proofs.Common.{◌≡◌, ◌≢◌, ℕ, ◌+◌, ◌<◌, ◌≤◌, ◌⊎◌, inl, inr, List, length, get_or, take, drop, refl, sym, ap, subst}
use Rattle.std.proofs.Common.{◌∙◌, arith}
use Rattle.std.proofs.lemmas.{Bool.cases_eq, Slice.drop-put_mid}
use Rattle.std.proofs.lemmas.List.{length-append, length-take, length-drop, get_or-take, get_or-drop, get_or_append_left, take_at}
use Rattle.std.proofs.lemmas.List.{drop_at, ext_get_or}
use borrow.Rule.Slice.PartMut.{put_mid}
use Rattle.rtui_cell.specs.{declared.cell.Cell.Cell, Cell.empty_cell}
use Rattle.rtui_diff.specs.Cells.{cell}
use Rattle.rtui_widgets.specs.Inner.{Rows, place, cells_of_row, KeepsOthers, MakesRows, LeavesRows}
use Rattle.rtui_grid.proofs.PlaceLemmas.{by_rows}

-- ---- a part of a list that was written

module _ (at n : ℕ) (cells part : List Cell) (inside : at + n ≤ length cells) (len : length part ≡ n) where
  pub length-written : length (put_mid at n cells part) ≡ length cells
  length-written = simp (length-append, length-take, length-drop) (omega arith)

  written-before : (i : ℕ) → i < at → cell (put_mid at n cells part) i ≡ cell cells i
  written-before i lt = get_or_append_left (take at cells) _ empty_cell i (simp length-take (omega arith))
      ∙ get_or-take at cells i empty_cell lt

  from_drop : (xs : List Cell) (i : ℕ) → get_or (drop i xs) 0 empty_cell ≡ cell xs i
  from_drop xs i = get_or-drop i xs 0 empty_cell ∙ ap (cell xs) (omega arith)

  written-behind : (i : ℕ) → at + n ≤ i → cell (put_mid at n cells part) i ≡ cell cells i
  written-behind i le =
      sym (from_drop (put_mid at n cells part) i)
      ∙ ap (λ rest. get_or rest 0 empty_cell) (drop-put_mid at n cells part i le (omega arith) len)
      ∙ from_drop cells i

  written-there : take n (drop at (put_mid at n cells part)) ≡ part
  written-there = ap (take n) (drop_at (take at cells) _ at (length-take at cells ∙ omega arith)) ∙ take_at part _ n len

-- equal cells make equal rows
same-row : (from width : ℕ) (xs ys : List Cell) → length xs ≡ length ys → from + width ≤ length ys
    → ((i : ℕ) → from ≤ i → i < from + width → cell xs i ≡ cell ys i)
    → take width (drop from xs) ≡ take width (drop from ys)
same-row from width xs ys len fits h =
    let count : (zs : List Cell) → length zs ≡ length ys → length (take width (drop from zs)) ≡ width =
    λ zs e. simp (length-take, length-drop) (omega arith) in
    let at : (zs : List Cell) (i : ℕ) → i < width → get_or (take width (drop from zs)) i empty_cell ≡ cell zs (from + i) =
    λ zs i less. get_or-take width (drop from zs) i empty_cell less ∙ get_or-drop from zs i empty_cell in
    ext_get_or empty_cell (take width (drop from xs)) (take width (drop from ys)) (count xs len ∙ sym (count ys refl))
    (λ i lt.
    let less : i < width = omega (arith, lt, count xs len) in
    at xs i less ∙ h (from + i) (omega arith) (omega arith) ∙ sym (at ys i less))

-- ---- rows

-- the first rows are what f makes of them, and all else is as before
pub record HasMade (r : Rows) (f : ℕ → List Cell → List Cell) (k : ℕ) (old now : List Cell) : Type 0 where
  pub keeps : KeepsOthers r old now
  pub above : (j : ℕ) → j < k → cells_of_row r j now ≡ f j (cells_of_row r j old)
  pub below : (j : ℕ) → k ≤ j → j < r.count → cells_of_row r j now ≡ cells_of_row r j old

pub made-none : (r : Rows) (f : ℕ → List Cell → List Cell) (cells : List Cell) → HasMade r f 0 cells cells
made-none r f cells = record {
  keeps = record { length_stays = refl; others = λ i out. refl };
  above = λ j lt. absurd (omega arith);
  below = λ j ge lt. refl;
}

pub made-all : (r : Rows) (f : ℕ → List Cell → List Cell) (k : ℕ) (old now : List Cell) → r.count ≤ k → HasMade r f k old now
    → MakesRows r f old now
made-all r f k old now all h = record { keeps = h.keeps; rows = λ j lt. h.above j (omega arith) }

-- row k is written
module _ (r : Rows) (spread : r.width ≤ r.stride) (k at n : ℕ) (now part : List Cell) (here : at ≡ place r k) (wide : n ≡ r.width)
    (lt : k < r.count)
    (inside : (j : ℕ) → j < r.count → place r j + r.width ≤ length now) (len : length part ≡ r.width) where
  abbrev more : List Cell
  more = put_mid at n now part

  fits : at + n ≤ length now
  fits = let i = inside k lt in omega arith

  count : length part ≡ n
  count = omega arith

  beside : (i : ℕ) → (i < place r k) ⊎ (place r k + r.width ≤ i) → cell more i ≡ cell now i
  beside i out = elim out [
    | inl before ↦ written-before at n now part fits count i (omega arith)
    | inr behind ↦ written-behind at n now part fits count i (omega arith)
  ]

  pub row-here : cells_of_row r k more ≡ part
  row-here = rw (← here, ← wide) (written-there at n now part fits count)

  pub row-other : (j : ℕ) → j < r.count → j ≢ k → cells_of_row r j more ≡ cells_of_row r j now
  row-other j j_in other =
      same-row (place r j) r.width more now (length-written at n now part fits count) (inside j j_in)
      (λ i from to. beside i (by_rows _ r.stride j k (λ _ e. inl (omega arith)) (λ _ e. inr (omega arith))
      (λ e. absurd (other e))))

  pub others-stay : KeepsOthers r now more
  others-stay = record { length_stays = length-written at n now part fits count; others = λ i out. beside i (out k lt) }

  module _ (f : ℕ → List Cell → List Cell) (old : List Cell) (h : HasMade r f k old now) where
    pub keeps-others : KeepsOthers r old more
    keeps-others = record {
      length_stays = others-stay.length_stays ∙ h.keeps.length_stays;
      others = λ i out. others-stay.others i out ∙ h.keeps.others i out;
    }

    rows-above : (j : ℕ) → j < k → cells_of_row r j more ≡ f j (cells_of_row r j old)
    rows-above j before = row-other j (omega arith) (omega arith) ∙ h.above j before

    rows-below : (j : ℕ) → k < j → j < r.count → cells_of_row r j more ≡ cells_of_row r j old
    rows-below j after j_in = row-other j j_in (omega arith) ∙ h.below j (omega arith) j_in

    -- it is what f makes of it
    pub made-more : part ≡ f k (take r.width (drop (place r k) now)) → HasMade r f (k + 1) old more
    made-more is = record {
      keeps = keeps-others;
      above = λ j j_in. elim (cases_eq j k) [
        | inl same ↦ subst (λ m. cells_of_row r m more ≡ f m (cells_of_row r m old)) (sym same)
            (row-here ∙ is ∙ ap (f k) (h.below k (omega arith) lt))
        | inr other ↦ rows-above j (omega arith)
      ];
      below = λ j ge j_in. rows-below j (omega arith) j_in;
    }

    -- it was refused, and is as g says
    pub leaves-row : (g : ℕ → List Cell → List Cell → Type 0) → g k (take r.width (drop (place r k) now)) part
        → LeavesRows r f g old more
    leaves-row g left = record {
      at = k;
      there = lt;
      above = rows-above;
      row = subst (g k (cells_of_row r k old)) (sym row-here) (subst (λ cells. g k cells part) (h.below k (omega arith) lt) left);
      below = rows-below;
    }
