-- Painting within a row keeps a frame settled.
use Rattle.std.proofs.Common.{◌≡◌, ℕ, suc, ◌+◌, ◌-◌, ◌*◌, ◌/◌, ◌%◌, ◌<◌, ◌≤◌, ⊎_elim, true, false, List, [], ◌∷◌, length, take}
use Rattle.std.proofs.Common.{inl, inr, refl, sym, ap, subst, ◌∙◌, arith}
use Rattle.std.proofs.lemmas.{Bool.cases_lt, Nat.mod-mul-add, List.Sums.sum_by-cons}
use Rattle.rtui_cell.specs.{declared.cell.Cell.Cell, Equality.is_same}
use Rattle.rtui_cell.specs.Cell.{empty_cell, width_of, is_skipped, IsUnmarked}
use Rattle.rtui_cell.proofs.CellLemmas.{width-empty, same-empty}
use Rattle.rtui_diff.specs.{Cells.cell, Cells.cell_at, Settled.IsSettled, Settled.IsSettledAt}
use Rattle.rtui_diff.proofs.{FrameLemmas.column_in, FrameLemmas.row_start, SettledLemmas.settled_at, SettledLemmas.settled_from}
use Rattle.rtui_grid.proofs.PlaceLemmas.{by_rows}
use Rattle.rtui_buffer.specs.Painting.{Piece, piece_width, columns, shown, piece_at, place_of, HasPieces}

pub unmarked_empty : {c : Cell} → c ≡ empty_cell → IsUnmarked c
unmarked_empty e = rw e (record { option = refl; flag = refl })

skipped-shown : (p : Piece) (c : Cell) → IsUnmarked c → is_skipped (shown p c) ≡ false
unfolding is_skipped
skipped-shown p c plain = rw (plain.option, plain.flag) refl

pub width-shown : (p : Piece) (c : Cell) → IsUnmarked c → width_of (shown p c) ≡ piece_width p
unfolding width_of
width-shown p c plain = rw plain.option refl

-- where a column of the pieces lies: in which of them, and how far in it
pub record IsIn (ps : List Piece) (k : ℕ) : Type 0 where
  pub piece : ℕ
  pub column : ℕ
  pub in_list : piece < length ps
  pub in_piece : column < piece_width (piece_at ps piece)
  pub place : columns (take piece ps) + column ≡ k
  pub ends : columns (take piece ps) + piece_width (piece_at ps piece) ≤ columns ps

pub is_in : (ps : List Piece) (k : ℕ) → k < columns ps → IsIn ps k
is_in [] k lt = absurd (omega arith)
is_in (p ∷ ps) k lt =
    let sum : columns (p ∷ ps) ≡ piece_width p + columns ps = sum_by-cons piece_width p ps in
    ⊎_elim
    (λ (first : k < piece_width p). record {
      piece = 0;
      column = k;
      in_list = omega arith;
      in_piece = first;
      place = omega arith;
      ends = omega arith;
    })
    (λ (more : piece_width p ≤ k).
    let r : IsIn ps (k - piece_width p) = is_in ps (k - piece_width p) (omega arith) in
    let front : columns (take (suc r.piece) (p ∷ ps)) ≡ piece_width p + columns (take r.piece ps) =
    sum_by-cons piece_width p (take r.piece ps) in
    let at = r.place in
    let end = r.ends in
    record {
      piece = suc r.piece;
      column = r.column;
      in_list = (let e = r.in_list in omega arith);
      in_piece = r.in_piece;
      place = omega arith;
      ends = omega arith;
    })
    (cases_lt k (piece_width p))

settled_at-empty : (w h i : ℕ) (cells : List Cell) → i < w * h → cell cells i ≡ empty_cell → IsSettledAt w cells i
settled_at-empty w h i cells lt e =
    let one : width_of (cell cells i) ≡ 1 = ap width_of e ∙ width-empty in
    let inside : i % w < w = column_in w h i lt in
    record {
      skipped = λ s. omega arith;
      within = λ s. omega arith;
      behind = λ s k more less. absurd (omega arith);
    }

pub IsSettled-empty : (w h : ℕ) (cells : List Cell) → ((i : ℕ) → cell cells i ≡ empty_cell) → IsSettled w h cells
IsSettled-empty w h cells empty = settled_from w h cells (λ i lt. settled_at-empty w h i cells lt (empty i))

module _ (w h x y : ℕ) (ps : List Piece) (old new : List Cell) (is : HasPieces (y * w + x) ps old new) (was : IsSettled w h old)
    (unmarked : (a : ℕ) → x ≤ a → a < x + columns ps → IsUnmarked (cell_at w old a y))
    (uncovered : (a : ℕ) → a < x → is_skipped (cell_at w old a y) ≡ false → a + width_of (cell_at w old a y) ≤ x)
    (fits : x + columns ps ≤ w) (started : x ≤ w) where
  settled_at-start : (k : ℕ) → k < length ps → 0 < piece_width (piece_at ps k)
      → columns (take k ps) + piece_width (piece_at ps k) ≤ columns ps → IsSettledAt w new (place_of (y * w + x) ps k)
  settled_at-start k lt pos ends =
      let place : y * w + (x + columns (take k ps)) ≡ place_of (y * w + x) ps k = omega arith in
      let former : IsUnmarked (cell old (place_of (y * w + x) ps k)) =
      subst (λ n. IsUnmarked (cell old n)) place (unmarked (x + columns (take k ps)) (omega arith) (omega arith)) in
      let here = is.starts k lt in
      let wide : width_of (cell new (place_of (y * w + x) ps k)) ≡ piece_width (piece_at ps k) = ap width_of here
      ∙ width-shown (piece_at ps k) _ former in
      let plain : is_skipped (cell new (place_of (y * w + x) ps k)) ≡ false = ap is_skipped here
      ∙ skipped-shown (piece_at ps k) _ former in
      let column : place_of (y * w + x) ps k % w ≡ x + columns (take k ps) = ap (λ n. n % w) (sym place)
      ∙ mod-mul-add y w (x + columns (take k ps)) (omega arith) in
      record {
        skipped = λ s. absurd (let e : false ≡ true = sym plain ∙ s in cc);
        within = λ s. omega arith;
        behind = λ s j more less.
            let e : place_of (y * w + x) ps k + (j - place_of (y * w + x) ps k) ≡ j = omega arith in
            let blank : cell new j ≡ empty_cell =
            subst (λ n. cell new n ≡ empty_cell) e (is.behind k (j - place_of (y * w + x) ps k) lt (omega arith)
            (omega arith)) in
            inl (ap (λ c. is_same c empty_cell) blank ∙ same-empty);
      }

  settled_at-inside : (i : ℕ) → i < w * h → IsIn ps (i - (y * w + x)) → y * w + x ≤ i → IsSettledAt w new i
  settled_at-inside i lt r le =
      let at = r.place in
      let inside = r.in_piece in
      let place : place_of (y * w + x) ps r.piece + r.column ≡ i = omega arith in
      ⊎_elim
      (λ (behind : 0 < r.column). settled_at-empty w h i new lt (subst (λ n. cell new n ≡ empty_cell) place
      (is.behind r.piece r.column r.in_list behind r.in_piece)))
      (λ (first : r.column ≤ 0).
      let here : place_of (y * w + x) ps r.piece ≡ i = omega arith in
      subst (IsSettledAt w new) here (settled_at-start r.piece r.in_list (omega arith) r.ends))
      (cases_lt 0 r.column)

  -- a cell before the painted ones doesn't reach them
  ends_before : (i : ℕ) → i < w * h → i < y * w + x → is_skipped (cell old i) ≡ false → i + width_of (cell old i) ≤ y * w + x
  ends_before i lt before plain =
      let at : IsSettledAt w old i = settled_at w h old i lt was in
      let ends : i % w + width_of (cell old i) ≤ w = at.within plain in
      let split : i / w * w + i % w ≡ i = row_start w h i in
      by_rows _ w (i / w) y (λ _ r. omega arith) (λ _ r. absurd (omega arith)) (λ same.
      let start : i / w * w ≡ y * w = ap (λ q. q * w) same in
      let here : y * w + i % w ≡ i = omega arith in
      let plain' : is_skipped (cell_at w old (i % w) y) ≡ false = subst (λ n. is_skipped (cell old n) ≡ false) (sym here) plain in
      let reach : i % w + width_of (cell old i) ≤ x = subst (λ n. i % w + width_of (cell old n) ≤ x) here (uncovered (i % w)
      (omega arith) plain') in
      omega arith)

  -- a cell that is as before, and so are those that it covers
  settled_at-former : (i : ℕ) → i < w * h → cell new i ≡ cell old i
      → ((k : ℕ) → is_skipped (cell old i) ≡ false → i < k → k < i + width_of (cell old i) → cell new k ≡ cell old k)
      → IsSettledAt w new i
  settled_at-former i lt same covered =
      let at : IsSettledAt w old i = settled_at w h old i lt was in
      record {
        skipped = rw same at.skipped;
        within = rw same at.within;
        behind = rw same (λ s k more less. rw (covered k s more less) (at.behind s k more less));
      }

  settled_at-painted : (i : ℕ) → i < w * h → IsSettledAt w new i
  settled_at-painted i lt = elim (cases_lt i (y * w + x)) [
    | inl before ↦ settled_at-former i lt (is.outside.before i before) (λ k s more less. let e = ends_before i lt before s in
        is.outside.before k (omega arith))
    | inr from ↦ elim (cases_lt i (y * w + x + columns ps)) [
      | inl inside ↦ settled_at-inside i lt (is_in ps (i - (y * w + x)) (omega arith)) from
      | inr behind ↦ settled_at-former i lt (is.outside.behind i behind) (λ k s more less. is.outside.behind k (omega arith))
    ]
  ]

  pub IsSettled-painted : IsSettled w h new
  IsSettled-painted = settled_from w h new settled_at-painted
