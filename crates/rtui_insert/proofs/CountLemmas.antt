-- How many items a drawing of rows hands to a backend.
use Rattle.std.proofs.Common.{◌≡◌, ℕ, zero, suc, ◌+◌, ◌-◌, ◌*◌, ◌≤◌, Bool, true, false, not, ◌&&◌, List, [], ◌∷◌, cond, length}
use Rattle.std.proofs.Common.{map, take, drop, take-add, slice_index_or, refl, ap, ◌∙◌, arith, add-one}
use Rattle.std.specs.List.{range_with_len, count_by}
use Rattle.std.proofs.lemmas.List.{length-map, drop-drop}
use Rattle.std.proofs.lemmas.List.Sums.{length-filter, sum_by-cons, sum_by-append}
use Rattle.rtui_cell.specs.{declared.cell.Cell.Cell, Cell.empty_cell, Cell.width_of, Cell.is_skipped, Equality.is_same}
use Rattle.rtui_cell.proofs.CellLemmas.{width-empty, equal_parts}
use Rattle.rtui_diff.specs.{Cells.cell, Cells.is_always, Completeness.AreNarrow, Completeness.differing, Updates.update_at}
use Rattle.rtui_diff.specs.DiffRule.{Walk, given, start}
use Rattle.rtui_diff.proofs.{ScreenLemmas.RisesFrom, ReplayLemmas.rises}
use Rattle.rtui_buffer.specs.{BufferData.BufferData, BufferData.IsEmptied, RowsDiff.part_cells}
use Rattle.rtui_insert.proofs.MarkLemmas.{part_at, part_of_empty}
use Rattle.rtui_backend.specs.Screen.{Screen}
use Rattle.rtui_insert.specs.Rows.{DrawsRows, lowered_update, is_nonempty, nonempty_cells, IsNarrowBuffer, WritesAtMost}

-- items of a list that pass a test, counted by places and by parts
module _ {X : Type 0} (q : X → Bool) (d : X) (none : q d ≡ false) where
  counted_one : (xs : List X) (k : ℕ) → count_by q (drop k xs) ≡ cond (q (slice_index_or xs k d)) 1 0 + count_by q
      (drop (suc k) xs)
  counted_one [] zero = rw none refl
  counted_one [] (suc k) = rw none refl
  counted_one (x ∷ xs) zero = sum_by-cons (λ y. cond (q y) 1 0) x xs
  counted_one (x ∷ xs) (suc k) = counted_one xs k

  counted : (p : ℕ → Bool) (xs : List X) → ((i : ℕ) → p i ≡ q (slice_index_or xs i d)) → (m k : ℕ)
      → count_by p (range_with_len k m) ≤ count_by q (drop k xs)
  counted p xs same zero k = omega arith
  counted p xs same (suc m) k =
      let first = rw (same k) at (sum_by-cons (λ i. cond (p i) 1 0) k (range_with_len (k + 1) m)) in
      omega (arith, rw (← add-one k) at (counted_one xs k), counted p xs same m (k + 1), first)

-- a walk gives no place twice
pub given_count : (ps ns : List Cell) (k : ℕ) (s : Walk) (i : ℕ) → length (given ps ns k s i) ≤ k
given_count ps ns k s i = omega (arith, places (i + k) i _ (rises ps ns k s i (i + k) refl))
  where
    places : (hi lo : ℕ) (is : List ℕ) → RisesFrom ns lo hi is → length is ≤ hi - lo
    places hi lo [] r = omega arith
    places hi lo (j ∷ is) r = omega (arith, r.0, r.1, places hi (j + 1) is r.3)

-- what is drawn in two steps
pub writes_then : (a b c : ℕ) (old mid new : Screen) → a + b ≤ c → WritesAtMost a old mid → WritesAtMost b mid new
    → WritesAtMost c old new
writes_then a b c old mid new all first next room = let so_far = first (omega (arith, all, room)) in
    omega (arith, all, so_far, next (omega (arith, all, so_far, room)))

-- a step that draws nothing, before it and after it
pub writes_after : (n : ℕ) (old mid new : Screen) → mid.written ≡ old.written → WritesAtMost n mid new → WritesAtMost n old new
writes_after n old mid new same next room = omega (arith, same, next (omega (arith, same, room)))

pub writes_before : (n : ℕ) (old mid new : Screen) → new.written ≡ mid.written → WritesAtMost n old mid → WritesAtMost n old new
writes_before n old mid new same first room = omega (arith, same, first room)

module _ {former s : BufferData} {i n y : ℕ} {old new : Screen} (draws : DrawsRows former s i n y old new) where
  by_updates : (m : ℕ) → length draws.updates ≤ m → WritesAtMost m old new
  by_updates m le room =
      let count : length (map (lowered_update y) draws.updates) ≡ length draws.updates =
      length-map draws.updates (lowered_update y) in
      omega (arith, count, draws.drawn.written (omega (arith, count)))

  -- at most each cell of the rows
  pub writes_rows : WritesAtMost (former.area.width * n) old new
  writes_rows =
      let e : length draws.updates ≡ length (given (part_cells former 0 n) (part_cells s i n) (former.area.width * n) start 0) =
      ap length draws.diff.walks ∙ length-map _ (update_at 0 0 former.area.width (part_cells s i n)) in
      by_updates (former.area.width * n)
      (omega (arith, e, given_count (part_cells former 0 n) (part_cells s i n) (former.area.width * n) start 0))

-- the cells drawn of rows, one part after the other
pub nonempty_parts : (s : BufferData) (i n m : ℕ) → nonempty_cells s i (n + m) ≡ nonempty_cells s i n + nonempty_cells s (i + n) m
nonempty_parts s i n m =
    let size : s.area.width * (n + m) ≡ s.area.width * n + s.area.width * m = grind arith in
    let place : i * s.area.width + s.area.width * n ≡ (i + n) * s.area.width = grind arith in
    rw (size, ← place, take-add, drop-drop)
    (sum_by-append (λ c. cond (is_nonempty c) 1 0) (part_cells s i n)
    (take (s.area.width * m) (drop (i * s.area.width + s.area.width * n) s.cells)))

plain_empty : is_nonempty empty_cell ≡ false
unfolding is_skipped
plain_empty = let same : is_same empty_cell empty_cell ≡ true = equal_parts empty_cell empty_cell (record {
  look = refl;
  option = refl;
  flag = refl;
}) in rw same refl

-- over empty rows, at most each unskipped cell that isn't blank
module _ {former s : BufferData} {i n y : ℕ} {old new : Screen} (draws : DrawsRows former s i n y old new)
    (wide : s.area.width ≡ former.area.width) (emptied : IsEmptied former.area former) (narrow : IsNarrowBuffer s) where
  are_narrow : AreNarrow (former.area.width * n) (part_cells former 0 n) (part_cells s i n)
  are_narrow = record {
    former = λ k low. omega (arith, ap width_of (part_of_empty former.area former emptied 0 n k) ∙ width-empty);
    next = λ k low. rw (part_at s i n k (rw wide low)) (narrow.narrow (i * s.area.width + k));
    changing = λ k low. ap is_always (part_at s i n k (rw wide low)) ∙ narrow.changing (i * s.area.width + k);
  }

  pub writes_nonempty : WritesAtMost (nonempty_cells s i n) old new
  writes_nonempty =
      let ps = part_cells former 0 n in
      let ns = part_cells s i n in
      let e : length draws.updates ≡ length (differing ps ns (former.area.width * n)) = ap length (draws.diff.narrow are_narrow)
      ∙ length-map (differing ps ns (former.area.width * n)) (update_at 0 0 former.area.width ns) in
      let f = length-filter (λ k. not (is_skipped (cell ns k)) && not (is_same (cell ps k) (cell ns k)))
      (range_with_len 0 (former.area.width * n)) in
      let g = counted is_nonempty empty_cell plain_empty _ ns
      (λ k. ap (λ p. not (is_skipped (cell ns k)) && not (is_same p (cell ns k)))
      (part_of_empty former.area former emptied 0 n k)) (former.area.width * n) 0 in
      by_updates draws (nonempty_cells s i n) (omega (arith, e, f, g))
