-- Cells that move, or are emptied, and what their grid shows then.
use Rattle.std.proofs.Common.{◌≡◌, ◌∷◌, zero, suc, ℕ, true, false, ◌+◌, ◌*◌, ◌<◌, ◌≤◌, ◌++◌, ◌&&◌, min, nat_lt, Bool, List, []}
use Rattle.std.proofs.Common.{append-nil, length, map, take, refl, sym, ap, ap₂, ◌∙◌, arith, inl, inr, length-take, if◌then◌else◌}
use Rattle.std.proofs.Common.{nat_le}
use Rattle.std.specs.List.{range_with_len}
use Rattle.std.proofs.Math.Nat.{mul-le-mul_right}
use Rattle.std.proofs.lemmas.{Nat.mul-add-lt, List.Elements.All-append, List.map-append, List.FromFn.map-range_with_len_more}
use Rattle.std.proofs.lemmas.{List.get_or-take, List.take_all, Bool.cases_lt, Bool.cond_both, Bool.Decides.nat_tests}
use Rattle.rtui_grid.proofs.{ItemLemmas.past_end, PlaceLemmas.row_ends, PlaceLemmas.by_rows, RangeLemmas.map_same}
use Rattle.rtui_grid.specs.Items.{item_at}
use Rattle.rtui_cell.specs.{declared.cell.Cell.Cell, Cell.empty_cell, Cell.IsUnmarked, Look.look_of, Look.empty_look}
use Rattle.rtui_cell.proofs.CellLemmas.{look-empty}
use Rattle.rtui_diff.specs.Cells.{cell}
use Rattle.rtui_backend.specs.declared.clear_type.ClearType.TheVariants.{AfterCursor, BeforeCursor, CurrentLine, UntilNewLine}
use Rattle.rtui_backend.specs.{Clear.is_cleared, Screen.Motion, Screen.moved_by}
use Rattle.rtui_backend.specs.CellGrid.{look_at, grid_of, AreUnmarked, AreUnmarkedRows}
use Rattle.rtui_backend.proofs.{LineLemmas.look_at-cell, LineLemmas.grid-cell, MotionLemmas.moved-through}
use Rattle.rtui_backend.proofs.{MotionLemmas.moved-along, PlainLemmas.unmarked-empty}

-- cells that move, on their grid
pub grid_moved : (m : Motion) (w x y : ℕ) (old new : List Cell) → x < w
    → item_at empty_cell w new x y ≡ moved_by m empty_cell (item_at empty_cell w old) x y
    → grid_of w new x y ≡ moved_by m empty_look (grid_of w old) x y
grid_moved m w x y old new x_in moved =
    grid-cell w x y new x_in ∙ ap look_of moved ∙ moved-through m empty_cell (item_at empty_cell w old) x y look_of
    ∙ ap (λ none. moved_by m none (λ a b. look_of (item_at empty_cell w old a b)) x y) look-empty
    ∙ moved-along m empty_look (λ a b. look_of (item_at empty_cell w old a b)) x y (grid_of w old)
    (λ b. sym (grid-cell w x b old x_in))

-- a cell that another one or none came to, and one that was emptied
pub unmarked_moved : (s t : Bool) (p q : Cell) → IsUnmarked p → IsUnmarked q
    → IsUnmarked (if s then (if t then p else empty_cell) else q)
unmarked_moved s t p q one other = cond_both s _ q IsUnmarked (λ _. cond_both t p empty_cell IsUnmarked (λ _. one)
    (λ _. unmarked-empty)) (λ _. other)

pub look_emptied : (s : Bool) (old new : List Cell) (k : ℕ) → cell new k ≡ (if s then empty_cell else cell old k)
    → look_at new k ≡ (if s then empty_look else look_at old k)
look_emptied true old new k e = look_at-cell new k ∙ ap look_of e ∙ look-empty
look_emptied false old new k e = look_at-cell new k ∙ ap look_of e ∙ sym (look_at-cell old k)

-- which places of a list a clear empties
module _ (w h x y a b : ℕ) (a_in : a < w) (b_in : b < h) (x_in : x < w) where
  pub places_after : (nat_le (min (min (y * w) (w * h) + x) (w * h)) (b * w + a) && nat_lt (b * w + a)
      (w * h)) ≡ is_cleared AfterCursor x y a b
  places_after = let inside = mul-add-lt b w a h b_in a_in in by_rows _ w b y (λ p q. grind (arith, nat_tests))
      (λ p q. grind (arith, nat_tests)) (λ e. grind (arith, nat_tests))

  pub places_before : (nat_le 0 (b * w + a) && nat_lt (b * w + a) (min (min (min (y * w) (w * h) + x) (w * h) + 1)
      (w * h))) ≡ is_cleared BeforeCursor x y a b
  places_before = let inside = mul-add-lt b w a h b_in a_in in by_rows _ w b y (λ p q. grind (arith, nat_tests))
      (λ p q. grind (arith, nat_tests)) (λ e. grind (arith, nat_tests))

  pub places_line : (nat_le (min (y * w) (w * h)) (b * w + a) && nat_lt (b * w + a)
      (min (min (y * w) (w * h) + w) (w * h))) ≡ is_cleared CurrentLine x y a b
  places_line = let inside = mul-add-lt b w a h b_in a_in in by_rows _ w b y (λ p q. grind (arith, nat_tests))
      (λ p q. grind (arith, nat_tests)) (λ e. grind (arith, nat_tests))

  pub places_until : (nat_le (min (min (y * w) (w * h) + x) (w * h)) (b * w + a) && nat_lt (b * w + a)
      (min (min (y * w) (w * h) + w) (w * h))) ≡ is_cleared UntilNewLine x y a b
  places_until = let inside = mul-add-lt b w a h b_in a_in in by_rows _ w b y (λ p q. grind (arith, nat_tests))
      (λ p q. grind (arith, nat_tests)) (λ e. grind (arith, nat_tests))

-- a list that is made item by item, by what it looks like
pub looks_pushed : {X Y : Type 0} (look : X → Y) (f : ℕ → Y) (old new : List X) (x : X) (n : ℕ) → new ≡ old ++ x ∷ [] →
    map look old ≡ map f (range_with_len 0 n) → look x ≡ f n → map look new ≡ map f (range_with_len 0 (n + 1))
looks_pushed look f old new x n more before here = rw more (map-append look old (x ∷ []) ∙ ap₂ (λ ys y. ys ++ y ∷ []) before here
    ∙ sym (map-range_with_len_more f 0 n n (omega arith)))

-- and one that others come after
pub looks_behind : {X Y : Type 0} (look : X → Y) (old new more : List X) (ys : List Y) → new ≡ old ++ more → map look more ≡ ys
    → map look new ≡ map look old ++ ys
looks_behind look old new more ys e is = rw (e, ← is) (map-append look old more)

-- the history, with rows that left after it if there are such
pub history_left : {X : Type 0} (former : List X) (t s : Bool) {xs ys : List X} → s ≡ true → xs ≡ ys
    → former ++ (if t then xs else []) ≡ if t && s then former ++ ys else former
history_left former true s some eq = rw (some, eq) refl
history_left former false s some eq = append-nil former

-- the rows that leave a region of e rows at the top, as rows of its grid
module _ (w h e : ℕ) (cells : List Cell) (size : length cells ≡ w * h) (inside : e ≤ h) where
  left_look : (a b : ℕ) → a < w → look_at (take (e * w) cells)
      (b * w + a) ≡ (if nat_lt b e then grid_of w cells a b else empty_look)
  left_look a b a_in = elim (cases_lt b e) [
    | inl above ↦
        let p = row_ends w b e above in
        look_at-cell (take (e * w) cells) (b * w + a)
        ∙ ap look_of (get_or-take (e * w) cells (b * w + a) empty_cell (omega arith)) ∙ sym (grid-cell w a b cells a_in)
        ∙ grind (arith, nat_tests)
    | inr past ↦
        let p : e * w ≤ b * w = mul-le-mul_right w past in
        let short : length (take (e * w) cells) ≤ b * w + a = simp length-take (omega arith) in
        look_at-cell (take (e * w) cells) (b * w + a) ∙ ap look_of (past_end empty_cell (take (e * w) cells) (b * w + a) short)
        ∙ look-empty ∙ grind (arith, nat_tests)
  ]

  pub rows_left : (count : ℕ) → map (λ b. map (λ a. look_at (take (e * w) cells) (b * w + a)) (range_with_len 0 w))
      (range_with_len 0 count)
      ≡ map (λ b. map (λ a. if nat_lt b e then grid_of w cells a b else empty_look) (range_with_len 0 w)) (range_with_len 0 count)
  rows_left count = map_same _ _ 0 count (λ b _ _. map_same _ _ 0 w (λ a _ a_in. left_look a b (omega arith)))

-- and the rows that leave the whole screen
pub rows_are : (w h : ℕ) (cells : List Cell) (size : length cells ≡ w * h) (count : ℕ)
    → map (λ b. map (λ a. look_at cells (b * w + a)) (range_with_len 0 w)) (range_with_len 0 count)
    ≡ map (λ b. map (λ a. if nat_lt b h then grid_of w cells a b else empty_look) (range_with_len 0 w)) (range_with_len 0 count)
rows_are w h cells size count =
    let whole : take (h * w) cells ≡ cells = take_all (h * w) cells (omega arith) in
    ap (λ (xs : List Cell). map (λ b. map (λ a. look_at xs (b * w + a)) (range_with_len 0 w)) (range_with_len 0 count))
    (sym whole)
    ∙ rows_left w h h cells size (omega arith) count

-- the first of unmarked cells
pub unmarked_front : (n : ℕ) (cells : List Cell) → AreUnmarked cells → AreUnmarked (take n cells)
unmarked_front zero cells plain i = unmarked-empty
unmarked_front (suc n) [] plain i = unmarked-empty
unmarked_front (suc n) (c ∷ cells) plain zero = plain 0
unmarked_front (suc n) (c ∷ cells) plain (suc i) = unmarked_front n cells (λ j. plain (suc j)) i

-- rows of unmarked cells after others
pub unmarked_rows : {R : Type 0} (items : R → List Cell) (old more : List R) → AreUnmarkedRows (map items old)
    → AreUnmarkedRows (map items more) → AreUnmarkedRows (map items (old ++ more))
unmarked_rows items old more p q = rw (map-append items old more) (All-append AreUnmarked (map items old) (map items more) p q)
