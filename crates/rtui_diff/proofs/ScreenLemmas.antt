-- From places of a list to columns and rows of a screen.
use Rattle.std.proofs.Common.{◌≡◌, ◌⊎◌, ℕ, ◌+◌, ◌*◌, ◌/◌, ◌%◌, ◌<◌, ◌≤◌, Bool, true, false, List, [], ◌∷◌, map, All, refl, sym}
use Rattle.std.proofs.Common.{ap, subst, ◌∙◌, arith, inl, inr}
use Rattle.std.proofs.lemmas.{Nat.row_fits, Bool.cases_order, Bool.Decides.nat_tests, List.Elements.All-nil}
use Rattle.std.proofs.lemmas.{List.Elements.All-cons, List.Elements.All-weaker}
use Rattle.rtui_cell.specs.{declared.cell.Cell.Cell, Look.Look, Cell.width_of, Cell.is_skipped, Grid.Grid, Grid.put, Grid.puts}
use Rattle.rtui_diff.specs.{Cells.cell, Updates.update_at, DiffRule.give, Settled.IsSettled, Shows.ShowsColumn, Shows.Shows}
use Rattle.rtui_diff.proofs.ColumnLemmas.{ShowsPlace, put_at, after}
use Rattle.rtui_diff.proofs.{FrameLemmas.row_start, FrameLemmas.row_end, FrameLemmas.column_in, FrameLemmas.row_in}
use Rattle.rtui_diff.proofs.{SettledLemmas.settled_at, SettledLemmas.same_row}

abbrev pub Plain : List Cell → ℕ → Type 0
Plain ns i = is_skipped (cell ns i) ≡ false

-- the places rise from lo on, lie below hi, and none is skipped
abbrev pub RisesFrom : List Cell → ℕ → ℕ → List ℕ → Type 0
RisesFrom ns lo hi [] = Unit {0}
RisesFrom ns lo hi (i ∷ is) = (lo ≤ i) × (i < hi) × Plain ns i × RisesFrom ns (i + 1) hi is

rises_lower : (ns : List Cell) (lo lo' hi : ℕ) (is : List ℕ) → lo' ≤ lo → RisesFrom ns lo hi is → RisesFrom ns lo' hi is
rises_lower ns lo lo' hi [] le r = tt
rises_lower ns lo lo' hi (i ∷ is) le r = (let a = r.0 in omega arith, r.1, r.2, r.3)

pub rises_give : (ns : List Cell) (g : Bool) (i hi : ℕ) (is : List ℕ) → i < hi → (g ≡ true → Plain ns i)
    → RisesFrom ns (i + 1) hi is → RisesFrom ns i hi (give g i is)
rises_give ns true i hi is lt p r = (omega arith, lt, p refl, r)
rises_give ns false i hi is lt p r = rises_lower ns (i + 1) i hi is (omega arith) r

pub rises_all : (ns : List Cell) (lo hi : ℕ) (is : List ℕ) → RisesFrom ns lo hi is
    → All (λ i. (lo ≤ i) × (i < hi) × Plain ns i) is
rises_all ns lo hi [] r = All-nil (λ i. (lo ≤ i) × (i < hi) × Plain ns i)
rises_all ns lo hi (i ∷ is) r = All-cons (λ i. (lo ≤ i) × (i < hi) × Plain ns i) i is (r.0, r.1, r.2)
    (All-weaker (λ j. (i + 1 ≤ j) × (j < hi) × Plain ns j) (λ j. (lo ≤ j) × (j < hi) × Plain ns j)
    (λ j q. (let a = q.0 in let b = r.0 in omega arith, q.1, q.2)) is (rises_all ns (i + 1) hi is r.3))

module _ (W H x0 y0 w h : ℕ) (x_fits : x0 + w ≤ W) (y_fits : y0 + h ≤ H) (ns : List Cell) (st : IsSettled w h ns) where
  -- a put on the screen, seen at a column of the area
  put_inside : (i a b : ℕ) (g : Grid) → i < w * h → Plain ns i → a < w → b < h →
      put W H (update_at x0 y0 w ns i) g (x0 + a) (y0 + b) ≡ put_at ns i (b * w + a) (g (x0 + a) (y0 + b))
  put_inside i a b g lt unskipped a_in b_in =
      let p : i / w * w + i % w ≡ i = row_start w h i in
      let x_in : i % w < w = column_in w h i lt in
      let y_in : i / w < h = row_in w h i lt in
      let fits : i % w + width_of (cell ns i) ≤ w = (settled_at w h ns i lt st).within unskipped in
      elim (cases_order (i / w) b) [
        | inl same ↦ let start : i / w * w ≡ b * w = ap (λ q. q * w) same in grind (arith, nat_tests)
        | inr (inl above) ↦ let e : i / w * w + w ≤ b * w = row_fits (i / w) w b w above (omega arith) in grind (arith, nat_tests)
        | inr (inr below) ↦ let e : b * w + w ≤ i / w * w = row_fits b w (i / w) w below (omega arith) in grind (arith, nat_tests)
      ]

  -- and outside the area nothing changes
  put_outside : (i a b : ℕ) (g : Grid) → i < w * h → Plain ns i → (a < x0) ⊎ (x0 + w ≤ a) ⊎ (b < y0) ⊎ (y0 + h ≤ b)
      → put W H (update_at x0 y0 w ns i) g a b ≡ g a b
  put_outside i a b g lt unskipped out =
      let x_in : i % w < w = column_in w h i lt in
      let y_in : i / w < h = row_in w h i lt in
      let fits : i % w + width_of (cell ns i) ≤ w = (settled_at w h ns i lt st).within unskipped in
      grind (arith, nat_tests)

  puts_inside : (lo : ℕ) (is : List ℕ) (a b : ℕ) (g : Grid) → RisesFrom ns lo (w * h) is → a < w → b < h →
      puts W H (map (update_at x0 y0 w ns) is) g (x0 + a) (y0 + b) ≡ after ns is (b * w + a) (g (x0 + a) (y0 + b))
  puts_inside lo [] a b g r a_in b_in = refl
  puts_inside lo (i ∷ is) a b g r a_in b_in =
      puts_inside (i + 1) is a b (put W H (update_at x0 y0 w ns i) g) r.3 a_in b_in ∙ ap (after ns is (b * w + a))
      (put_inside i a b g r.1 r.2 a_in b_in)

  pub puts_outside : (lo : ℕ) (is : List ℕ) (a b : ℕ) (g : Grid) → RisesFrom ns lo (w * h) is → (a < x0) ⊎ (x0 + w ≤ a) ⊎ (b < y0)
      ⊎ (y0 + h ≤ b) →
      puts W H (map (update_at x0 y0 w ns) is) g a b ≡ g a b
  puts_outside lo [] a b g r out = refl
  puts_outside lo (i ∷ is) a b g r out = puts_outside (i + 1) is a b (put W H (update_at x0 y0 w ns i) g) r.3 out
      ∙ put_outside i a b g r.1 r.2 out

  -- places that leave each column of the joined rows showing the frame leave the screen showing it
  pub shows_after : (is : List ℕ) (g : Grid) → RisesFrom ns 0 (w * h) is →
      ((a b : ℕ) → a < w → b < h → b * w + a < w * h → ShowsPlace ns (b * w + a) (after ns is (b * w + a) (g (x0 + a) (y0 + b))))
      →
      Shows x0 y0 w h ns (puts W H (map (update_at x0 y0 w ns) is) g)
  shows_after is g r all = record {
    at = λ a b a_in b_in.
        let shown = all a b a_in b_in (omega (arith, row_end w h b b_in)) in
        subst (ShowsColumn w ns a b) (sym (puts_inside 0 is a b g r a_in b_in)) (record {
          look = shown.look;
          behind = λ j less unskipped covers. shown.behind (b * w + j) (record {
            before = omega arith;
            unskipped = unskipped;
            reaches = omega arith;
          });
        });
  }

pub place_shown : (w h : ℕ) (cells : List Cell) (a b : ℕ) (l : Look) → IsSettled w h cells → a < w → b < h
    → ShowsColumn w cells a b l → ShowsPlace cells (b * w + a) l
place_shown w h cells a b l s a_in b_in shown = record {
  look = shown.look;
  behind = λ k x. let c = (same_row w h cells a b k s a_in b_in x).1 in shown.behind (k % w) c.before c.unskipped c.reaches;
}
