-- The updates rise row by row, and putting them on a grid that shows prev gives one that shows next.
use Rattle.std.proofs.Common.{◌≡◌, ℕ, zero, suc, ◌+◌, ◌*◌, ◌/◌, ◌%◌, ◌<◌, ◌≤◌, List, [], ◌∷◌, map, All, refl, sym, ap, arith, inl}
use Rattle.std.proofs.Common.{inr}
use Rattle.std.proofs.lemmas.{Nat.row_fits, Bool.cases_order, List.Elements.All-weaker, List.Elements.All-map}
use Rattle.rtui_cell.specs.{declared.cell.Cell.Cell}
use Rattle.rtui_diff.specs.{Cells.cell, Settled.IsSettled, Shows.Replays, DiffRule.Walk, DiffRule.start, DiffRule.gives}
use Rattle.rtui_diff.specs.{DiffRule.step, DiffRule.given}
use Rattle.rtui_diff.specs.Updates.{update_at, updates, IsBefore, Rises, IsCellOfNext}
use Rattle.rtui_diff.proofs.{WalkLemmas.unskipped, WalkLemmas.places, ColumnLemmas.replay_column, SettledLemmas.settled_flat}
use Rattle.rtui_diff.proofs.FrameLemmas.{row_start, column_in, row_in}
use Rattle.rtui_diff.proofs.ScreenLemmas.{Plain, RisesFrom, rises_give, rises_all, place_shown, puts_outside, shows_after}

pub rises : (ps ns : List Cell) (n : ℕ) (s : Walk) (i hi : ℕ) → i + n ≡ hi → RisesFrom ns i hi (given ps ns n s i)
unfolding given
rises ps ns zero s i hi e = tt
rises ps ns (suc n) s i hi e =
    rises_give ns (gives s (cell ps i) (cell ns i)) i hi _ (omega arith) (unskipped s.over s.left s.force (cell ps i) (cell ns i))
    (rises ps ns n (step s (cell ps i) (cell ns i)) (i + 1) hi (omega arith))

module _ (x0 y0 w h : ℕ) (ps ns : List Cell) where
  risen : RisesFrom ns 0 (w * h) (places w h ps ns)
  risen = rises ps ns (w * h) start 0 (w * h) (omega arith)

  before : (i j : ℕ) → i < w * h → j < w * h → i < j → IsBefore (update_at x0 y0 w ns i) (update_at x0 y0 w ns j)
  before i j i_in j_in lt =
      let p : i / w * w + i % w ≡ i = row_start w h i in
      let q : j / w * w + j % w ≡ j = row_start w h j in
      elim (cases_order (i / w) (j / w)) [
        | inl same ↦ let s : i / w * w ≡ j / w * w = ap (λ r. r * w) same in inr (omega arith, omega arith)
        | inr (inl above) ↦ inl (omega arith)
        | inr (inr below) ↦ absurd (omega (arith, row_fits (j / w) w (i / w) w below (omega arith), column_in w h j j_in))
      ]

  rise : (lo : ℕ) (is : List ℕ) → RisesFrom ns lo (w * h) is → Rises (map (update_at x0 y0 w ns) is)
  rise lo [] r = tt
  rise lo (i ∷ is) r = (
    All-map (IsBefore (update_at x0 y0 w ns i)) (update_at x0 y0 w ns) is
        (All-weaker (λ j. (i + 1 ≤ j) × (j < w * h) × Plain ns j) (λ j. IsBefore (update_at x0 y0 w ns i)
        (update_at x0 y0 w ns j))
        (λ j q. let a = q.0 in before i j r.1 q.1 (omega arith)) is (rises_all ns (i + 1) (w * h) is r.3)),
    rise (i + 1) is r.3,
  )

  own : (i : ℕ) → i < w * h → Plain ns i → IsCellOfNext x0 y0 w h ns (update_at x0 y0 w ns i)
  own i lt p = record {
    a = i % w;
    b = i / w;
    in_row = column_in w h i lt;
    in_rows = row_in w h i lt;
    x = refl;
    y = refl;
    own = ap (cell ns) (sym (row_start w h i));
    unskipped = p;
  }

  -- the updates rise strictly row by row within the common rows, and each is next's own and not skipped
  pub updates_rises : Rises (updates x0 y0 w h ps ns)
  updates_rises = rise 0 (places w h ps ns) risen

  pub updates_own : All (IsCellOfNext x0 y0 w h ns) (updates x0 y0 w h ps ns)
  updates_own =
      All-map (IsCellOfNext x0 y0 w h ns) (update_at x0 y0 w ns) (places w h ps ns)
      (All-weaker (λ j. (0 ≤ j) × (j < w * h) × Plain ns j) (λ j. IsCellOfNext x0 y0 w h ns (update_at x0 y0 w ns j))
      (λ j q. own j q.1 q.2)
      (places w h ps ns) (rises_all ns 0 (w * h) (places w h ps ns) risen))

  -- putting the updates on a grid that shows prev gives one that shows next, and no column outside the area changes
  pub replays : IsSettled w h ps → IsSettled w h ns → Replays x0 y0 w h ps ns (updates x0 y0 w h ps ns)
  replays sp st = record {
    shows = λ W H g x_fits y_fits shown. shows_after W H x0 y0 w h x_fits y_fits ns st (places w h ps ns) g risen
        (λ a b a_in b_in lt. replay_column (w * h) ps ns (b * w + a) (g (x0 + a) (y0 + b)) (settled_flat w h ps sp)
        (settled_flat w h ns st) lt
        (place_shown w h ps a b (g (x0 + a) (y0 + b)) sp a_in b_in (shown.at a b a_in b_in)));
    outside = λ W H g x_fits y_fits a b out. puts_outside W H x0 y0 w h x_fits y_fits ns st 0 (places w h ps ns) a b g risen out;
  }
