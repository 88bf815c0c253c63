-- A full repaint of a settled frame shows it, whatever stood there.
use Rattle.std.proofs.Common.{◌≡◌, ℕ, zero, suc, ◌+◌, ◌-◌, ◌*◌, ◌<◌, ◌≤◌, not, List, refl, sym, subst, ◌∙◌, ap, arith, filter}
use Rattle.std.specs.List.{range_with_len}
use Rattle.std.proofs.lemmas.Bool.{not-true}
use Rattle.rtui_cell.specs.{declared.cell.Cell.Cell, Look.Look, Cell.width_of, Cell.is_skipped}
use Rattle.rtui_diff.specs.{Cells.cell, Settled.IsSettled, Shows.Repaints, Shows.is_unskipped, DiffRule.give}
use Rattle.rtui_diff.proofs.{WalkLemmas.give_cond, SettledLemmas.settled_flat, ScreenLemmas.RisesFrom, ScreenLemmas.rises_give}
use Rattle.rtui_diff.proofs.{ScreenLemmas.shows_after}
use Rattle.rtui_diff.proofs.ColumnLemmas.{Covers, Settled, ShowsPlace, Closed, Splits, after, step_look, after-give, next_place}
use Rattle.rtui_diff.proofs.ColumnLemmas.{next_covers, next_bound, next_closed, next_splits, forced_moves, blank_kept}

-- the unskipped places of n places from i on
abbrev unskipped_places : List Cell → ℕ → ℕ → List ℕ
unskipped_places ns i n = filter (is_unskipped ns) (range_with_len i n)

unskipped_first : (ns : List Cell) (i n : ℕ)
    → unskipped_places ns i (suc n) ≡ give (not (is_skipped (cell ns i))) i (unskipped_places ns (i + 1) n)
unskipped_first ns i n = sym (give_cond (not (is_skipped (cell ns i))) i (unskipped_places ns (i + 1) n))

put_first : (ns : List Cell) (n i k : ℕ) (l : Look)
    → ShowsPlace ns k (after ns (unskipped_places ns (i + 1) n) k (step_look (not (is_skipped (cell ns i))) ns i k l)) →
    ShowsPlace ns k (after ns (unskipped_places ns i (suc n)) k l)
put_first ns n i k l shown = subst (ShowsPlace ns k)
    (sym (ap (λ is. after ns is k l) (unskipped_first ns i n) ∙ after-give (not (is_skipped (cell ns i))) ns i
    (unskipped_places ns (i + 1) n) k l)) shown

-- from place i on, if the cells that were put before it cover `left` more columns
painted_from : (len : ℕ) (ns : List Cell) (n left i k : ℕ) (l : Look) → Settled len ns → i + n ≡ len → k < len
    → Closed ns (i + left) → i + left ≤ len →
    ((c : ℕ) → i ≤ c → c < i + left → (j : ℕ) × Covers ns j c) → Splits (λ _. Unit {0}) ns (i + left) k l
    → ShowsPlace ns k (after ns (unskipped_places ns i n) k l)
painted_from len ns zero left i k l st e klt closed bound covered sp = sp.shown (omega arith)
painted_from len ns (suc n) zero i k l st e klt closed bound covered sp =
    let here : i + 0 ≡ i = omega arith in
    let next : next_place ns i ≡ i + 1 + (width_of (cell ns i) - 1) = omega arith in
    let free : Closed ns i = subst (Closed ns) here closed in
    let split = next_splits len (λ _. Unit {0}) ns i k l (step_look (not (is_skipped (cell ns i))) ns i k l) st
    (omega arith) klt free
    (subst (λ r. Splits (λ _. Unit {0}) ns r k l) here sp) (forced_moves ns i k l (not (is_skipped (cell ns i))) refl) in
    put_first ns n i k l
    (painted_from len ns n (width_of (cell ns i) - 1) (i + 1) k _ st (omega arith) klt
    (subst (Closed ns) next (next_closed len ns i st (omega arith) free))
    (omega (arith, next_bound len ns i st (omega arith)))
    (λ c a b. (i, next_covers len ns i c st (omega arith) (omega arith) (omega arith)))
    (subst (λ r. Splits (λ _. Unit {0}) ns r k (step_look (not (is_skipped (cell ns i))) ns i k l)) next split))
painted_from len ns (suc n) (suc left) i k l st e klt closed bound covered sp =
    let next : i + suc left ≡ i + 1 + left = omega arith in
    let x : (j : ℕ) × Covers ns j i = covered i (omega arith) (omega arith) in
    let kept = blank_kept len ns x.0 i k l (not (is_skipped (cell ns i))) st (omega arith) x.1 (not-true (is_skipped (cell ns i)))
    (λ same. (sp.shown (omega arith)).behind x.0 (subst (Covers ns x.0) (sym same) x.1)) in
    put_first ns n i k l
    (painted_from len ns n left (i + 1) k _ st (omega arith) klt (subst (Closed ns) next closed) (omega arith)
    (λ c a b. covered c (omega arith) (omega arith))
    (subst (Splits (λ _. Unit {0}) ns (i + 1 + left) k) (sym kept) (subst (λ r. Splits (λ _. Unit {0}) ns r k l) next sp)))

repaint_rises : (ns : List Cell) (n i hi : ℕ) → i + n ≡ hi → RisesFrom ns i hi (unskipped_places ns i n)
repaint_rises ns zero i hi e = tt
repaint_rises ns (suc n) i hi e = subst (RisesFrom ns i hi) (sym (unskipped_first ns i n))
    (rises_give ns (not (is_skipped (cell ns i))) i hi _ (omega arith) (not-true (is_skipped (cell ns i)))
    (repaint_rises ns n (i + 1) hi (omega arith)))

-- on any grid that holds the area
pub repaints : (w h : ℕ) (ns : List Cell) → IsSettled w h ns → Repaints w h ns
repaints w h ns st = record {
  shows = λ W H x0 y0 g x_fits y_fits. shows_after W H x0 y0 w h x_fits y_fits ns st (unskipped_places ns 0 (w * h)) g
      (repaint_rises ns (w * h) 0 (w * h) (omega arith))
      (λ a b a_in b_in lt. painted_from (w * h) ns (w * h) 0 0 (b * w + a) _ (settled_flat w h ns st)
      (omega arith) lt (record { closed = λ j x. omega (arith, x.before) }) (omega arith)
      (λ c p q. absurd (omega arith)) (record { shown = λ p. absurd (omega arith); former = λ _. tt }));
}
