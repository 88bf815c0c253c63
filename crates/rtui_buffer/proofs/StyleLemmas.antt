-- How a style is laid over cells, one after the other.
use Rattle.std.proofs.Common.{◌≡◌, ◌≢◌, ℕ, ◌+◌, ◌-◌, ◌*◌, ◌<◌, ◌≤◌, ⊎_elim, ◌&&◌, nat_le, nat_lt, if◌then◌else◌, List, length}
use Rattle.std.proofs.Common.{set, refl, ap, subst, ◌∙◌, arith, sym}
use Rattle.std.proofs.lemmas.{Bool.cases_lt, Bool.Decides.nat_tests, List.get_or-set_other, List.get_or-set_same}
use Rattle.rtui_style.specs.declared.Style.{Style}
use Rattle.rtui_cell.specs.{declared.cell.Cell.Cell, Cell.empty_cell, Cell.styled}
use Rattle.rtui_diff.specs.Cells.{cell, cell_at}
use Rattle.rtui_buffer.specs.Inner.{IsStyledPart, IsStyledRows}
use Rattle.rtui_buffer.proofs.PaintLemmas.{IsSameOutside-refl, IsSameOutside-set, IsSameOutside-wider}
use Rattle.rtui_grid.proofs.PlaceLemmas.{by_rows}

pub IsStyledPart-none : (from : ℕ) (s : Style) (cells : List Cell) → IsStyledPart from from s cells cells
IsStyledPart-none from s cells = record { inside = λ k le lt. absurd (omega arith); outside = IsSameOutside-refl from from cells }

pub IsStyledPart-more : (from i : ℕ) (s : Style) (old now : List Cell) → from ≤ i → i < length now → IsStyledPart from i s old now
    → IsStyledPart from (i + 1) s old (set now i (styled s (cell now i)))
IsStyledPart-more from i s old now le lt h = record {
  inside = λ k ge less. ⊎_elim
      (λ (before : k < i). (let ne : k ≢ i = omega arith in get_or-set_other now i k (styled s (cell now i)) empty_cell ne)
      ∙ h.inside k ge before)
      (λ (not_before : i ≤ k).
      let here : i ≡ k = omega arith in
      subst (λ n. cell (set now i (styled s (cell now i))) n ≡ styled s (cell old n)) here
      (get_or-set_same now i (styled s (cell now i)) empty_cell lt ∙ ap (styled s) (h.outside.behind i (omega arith))))
      (cases_lt k i);
  outside = IsSameOutside-set from (i + 1) i (styled s (cell now i)) old now le (omega arith)
      (IsSameOutside-wider from i (i + 1) old now (omega arith) h.outside);
}

pub IsStyledRows-none : (w left right top : ℕ) (s : Style) (cells : List Cell) → IsStyledRows w left right top top s cells cells
IsStyledRows-none w left right top s cells = record { count = refl; at = λ a b lt. grind (arith, nat_tests) }

module _ (w left right top row : ℕ) (s : Style) (old now more : List Cell) (fits : right ≤ w) (order : left ≤ right)
    (from : top ≤ row)
    (h : IsStyledRows w left right top row s old now) (g : IsStyledPart (row * w + left) (row * w + right) s now more) where
  former : (a : ℕ) → a < w → cell_at w now a row ≡ cell_at w old a row
  former a lt = let e = h.at a row lt in grind (arith, nat_tests)

  in_row : (a : ℕ) → a < w → cell_at w more a row ≡ (if nat_le left a && nat_lt a right && nat_le top row && nat_lt row
      (row + 1) then styled s (cell_at w old a row) else cell_at w old a row)
  in_row a lt =
      let f = former a lt in
      let before = g.outside.before (row * w + a) in
      let inside = g.inside (row * w + a) in
      let behind = g.outside.behind (row * w + a) in
      grind (arith, nat_tests)

  pub IsStyledRows-more : IsStyledRows w left right top (row + 1) s old more
  IsStyledRows-more = record {
    count = g.outside.count ∙ h.count;
    at = λ a b lt. by_rows _ w b row
        (λ up r. let e : cell_at w more a b ≡ cell_at w now a b = g.outside.before (b * w + a) (omega arith) in
        let f = h.at a b lt in grind (arith, nat_tests))
        (λ down r. let e : cell_at w more a b ≡ cell_at w now a b = g.outside.behind (b * w + a) (omega arith) in
        let f = h.at a b lt in grind (arith, nat_tests))
        (λ same. subst (λ n. cell_at w more a n ≡ (if nat_le left a && nat_lt a right && nat_le top n && nat_lt n
        (row + 1) then styled s (cell_at w old a n) else cell_at w old a n)) (sym same) (in_row a lt));
  }

pub rows_fit : (w h b n : ℕ) → b ≤ h → n ≡ w * h → b * w ≤ n
rows_fit w h b n le e = let k : h ≡ b + (h - b) = omega arith in rw (e, k) (omega arith)

pub ruleset part_steps = (IsStyledPart-none, IsStyledPart-more)

pub ruleset row_steps = (IsStyledRows-none, IsStyledRows-more)
