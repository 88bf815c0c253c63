-- Rows of cells as rows of a buffer.
use Rattle.std.proofs.Common.{◌≡◌, ℕ, ◌+◌, ◌-◌, ◌*◌, ◌<◌, ◌≤◌, ◌⊎◌, inl, inr, zero, suc, false, ◌==◌, List, [], length, take}
use Rattle.std.proofs.Common.{drop, refl, sym, ap, subst, ◌∙◌, arith, Result, Ok, Err, OnOk, OnErr}
use Rattle.std.specs.declared.alloc.AllocError.{AllocError}
use Rattle.std.proofs.lemmas.{Bool.cond_both, Bool.Decides.nat_tests, List.take_at, List.length-take, List.length-drop}
use Rattle.std.proofs.lemmas.{List.nil_from_length}
use borrow.Rule.Slice.PartMut.{put_mid}
use Rattle.rtui_geometry.specs.{declared.position.Position.Position, declared.rect.Rect.Rect}
use Rattle.rtui_geometry.specs.Rect.{HasPosition, corner, intersected}
use Rattle.rtui_cell.specs.declared.cell.Cell.{Cell}
use Rattle.rtui_buffer.specs.BufferData.{BufferData, area_size, cell_index, refilled}
use Rattle.rtui_buffer.specs.{Painting.KeepsUnmarked, Clipped.IsClipped}
use Rattle.rtui_buffer.proofs.PaintLemmas.{unmarked-refl}
use Rattle.rtui_text.specs.Text.{TextData}
use Rattle.rtui_widgets.specs.Rendering.{area_row, ChangesWithin, RendersRows, RendersText, in_first_row, first_row, text_row}
use Rattle.rtui_widgets.specs.Refused.{LeavesFirstRow, LeavesText, HasFrontOfRow}
use Rattle.rtui_widgets.specs.Inner.{Rows, rows_from, place, cells_of_row, IsOutside, KeepsOthers, MakesRows, LeavesRows}
use Rattle.rtui_widgets.proofs.{SpanLemmas.unmarked-written, WithinLemmas.part-around}
use Rattle.rtui_widgets.proofs.RowLemmas.{row-here, row-other, others-stay}
use Rattle.rtui_grid.proofs.PlaceLemmas.{row_ends, by_rows, apart}

-- ---- if the buffer has nothing of the area

pub renders-nothing : (area : Rect) (f : ℕ → List Cell → List Cell) (s : BufferData) → ((k : ℕ) → f k [] ≡ [])
    → ((intersected area s.area).width ≡ 0) ⊎ ((intersected area s.area).height ≡ 0) → RendersRows area f s s
renders-nothing area f s none empty = record {
  within = record { same_area = refl; same_room = refl; outside = λ p i o. refl };
  rows = λ k lt.
      let nil : area_row (intersected area s.area) k s ≡ [] = nil_from_length _ (length-take _ _ ∙ omega (arith, lt, empty)) in
      nil ∙ sym (ap (f k) nil ∙ none k);
  marks = unmarked-refl s.cells;
}

pub first-none : (g : List Cell → List Cell) → g [] ≡ [] → (k : ℕ) → in_first_row g k [] ≡ []
first-none g e k = cond_both _ (g []) [] (λ row. row ≡ []) (λ _. e) (λ _. refl)

-- ---- where the rows of an area stand in a buffer's list

plus-rows : (a k w c : ℕ) → (a + k) * w + c ≡ a * w + c + k * w
plus-rows a k w c = omega arith

row-fits : (a k w h c width count : ℕ) → a + k < h → c + width ≤ w → count ≡ w * h → a * w + c + k * w + width ≤ count
row-fits a k w h c width count lt le e = let b = row_ends w (a + k) h lt in omega arith

row-beside : (a k b w c d width : ℕ) → d < w → c + width ≤ w → (b ≡ a + k → (d < c) ⊎ (c + width ≤ d))
    → (b * w + d < a * w + c + k * w) ⊎ (a * w + c + k * w + width ≤ b * w + d)
row-beside a k b w c d width lt le same =
    by_rows _ w b (a + k) (λ p q. inl (omega arith)) (λ p q. inr (omega arith))
    (λ here. elim (same here) [ inl l ↦ inl (rw here (omega arith)) | inr r ↦ inr (rw here (omega arith)) ])

module _ (area : Rect) (old : BufferData) (r : Rect) (h : IsClipped area old.area r) where
  abbrev own : Rect
  own = old.area

  abbrev rows_of : ℕ → Rows
  rows_of n = rows_from (cell_index own (corner r)) r.width own.width n

  pub rows-inside : length old.cells ≡ area_size own → (k : ℕ) → k < r.height
      → place (rows_of r.height) k + r.width ≤ length old.cells
  rows-inside count k lt =
      let around = part-around area own r h in
      row-fits (r.y - own.y) k own.width own.height (r.x - own.x) r.width (length old.cells) (omega arith) (omega arith) count

  row-is : (k : ℕ) (cells : List Cell) → area_row (intersected area own) k (record old { cells = cells }) ≡ cells_of_row
      (rows_of r.height) k cells
  row-is k cells =
      let around = part-around area own r h in
      let e : r.y + k - own.y ≡ (r.y - own.y) + k = omega arith in
      let place_is : cell_index own (record { x = r.x; y = r.y + k }) ≡ place (rows_of r.height) k =
      ap (λ b. b * own.width + (r.x - own.x)) e ∙ plus-rows (r.y - own.y) k own.width (r.x - own.x) in
      ap (λ q. area_row q k (record old { cells = cells })) (sym h.value) ∙ ap (λ at. take r.width (drop at cells)) place_is

  -- what changes in the first n rows alone changes within an area that has them
  changes : (target : Rect) (n : ℕ) (w : List Cell)
      → ((p : Position) → HasPosition own p → r.x ≤ p.x → p.x < r.x + r.width → r.y ≤ p.y → p.y < r.y + n → HasPosition target p)
      → KeepsOthers (rows_of n) old.cells w → ChangesWithin target old (record old { cells = w })
  changes target n w has keeps = record {
    same_area = refl;
    same_room = refl;
    outside = λ p in_own off. keeps.others (cell_index own p) (outside p in_own off);
  }
    where
      outside : (p : Position) → HasPosition own p → ¬ (HasPosition target p) → IsOutside (rows_of n) (cell_index own p)
      outside p in_own off k lt =
          let around = part-around area own r h in
          row-beside (r.y - own.y) k (p.y - own.y) own.width (r.x - own.x) (p.x - own.x) r.width (omega arith) (omega arith)
          (λ same. apart (p.x - own.x) (r.x - own.x) r.width (λ from to. off (has p in_own (omega arith) (omega arith)
          (omega arith) (omega arith))))

  -- rows that were lent
  module _ (w : List Cell) (same : length w ≡ length old.cells) where
    abbrev new : BufferData
    new = record old { cells = refilled old.cells w }

    new-is : refilled old.cells w ≡ w
    new-is = take_at w (drop (length w) old.cells) (length old.cells) same

    height-is : r.height ≡ (intersected area own).height
    height-is = ap (λ q. q.height) h.value

    lent-changes : KeepsOthers (rows_of r.height) old.cells w → ChangesWithin area old new
    lent-changes keeps = rw new-is (changes area r.height w (λ p in_own left right top bottom. h.of_area p (omega arith)) keeps)

    lent-renders : (f : ℕ → List Cell → List Cell) → KeepsUnmarked old.cells w → MakesRows (rows_of r.height) f old.cells w
        → RendersRows area f old new
    lent-renders f marks made = record {
      within = lent-changes made.keeps;
      rows = λ k lt. rw new-is (row-is k w ∙ made.rows k (omega (arith, height-is, lt)) ∙ ap (f k) (sym (row-is k old.cells)));
      marks = rw new-is marks;
    }

    pub text-lent : {A : Type 0} (result : Result A AllocError) (text : TextData) → KeepsUnmarked old.cells w
        → OnOk result (MakesRows (rows_of r.height) (text_row text) old.cells w)
        → OnErr result (KeepsOthers (rows_of r.height) old.cells w)
        → OnErr result (LeavesRows (rows_of r.height) (text_row text) (HasFrontOfRow text) old.cells w)
        → OnOk result (RendersText text area old new) × OnErr result (ChangesWithin area old new)
        × OnErr result (LeavesText text area old new)
    text-lent (Ok x) text marks made _ _ = (lent-renders (text_row text) marks made, tt, tt)
    text-lent (Err e) text marks _ keeps left = (
      tt,
      lent-changes keeps,
      record {
        marks = rw new-is marks;
        within = lent-changes keeps;
        at = left.at;
        there = omega (arith, left.there, height-is);
        above = λ k lt. rw new-is (row-is k w ∙ left.above k lt ∙ ap (text_row text k) (sym (row-is k old.cells)));
        row = rw (new-is, row-is left.at w, row-is left.at old.cells) left.row;
        below = λ k after lt. rw new-is (row-is k w ∙ left.below k after (omega (arith, lt, height-is))
            ∙ sym (row-is k old.cells));
      },
    )

  -- a first row that was lent
  pub first-columns : (at n : ℕ) → at ≡ cell_index own (corner r) → n ≡ r.width → length old.cells ≡ area_size own
      → length (take n (drop at old.cells)) ≡ (intersected area own).width
  first-columns at n here wide count = let i = rows-inside count 0 h.rows in let w = ap (λ q. q.width) h.value in
      simp (length-take, length-drop) (omega arith)

  module _ (at n : ℕ) (part : List Cell) (here : at ≡ cell_index own (corner r)) (wide : n ≡ r.width)
      (count : length old.cells ≡ area_size own)
      (len : length part ≡ length (take n (drop at old.cells))) where
    abbrev row : List Cell
    row = take n (drop at old.cells)

    abbrev written : List Cell
    written = put_mid at n old.cells part

    abbrev changed : BufferData
    changed = record old { cells = refilled old.cells written }

    start : at ≡ place (rows_of r.height) 0
    start = omega arith

    spread : r.width ≤ own.width
    spread = let around = part-around area own r h in omega arith

    part-count : length part ≡ r.width
    part-count = len ∙ first-columns at n here wide count ∙ sym (ap (λ q. q.width) h.value)

    stays : (m : ℕ) → 0 < m → m ≤ r.height → KeepsOthers (rows_of m) old.cells written
    stays m some le = others-stay (rows_of m) spread 0 at n old.cells part start wide some
        (λ j lt. rows-inside count j (omega arith)) part-count

    row-old : cells_of_row (rows_of r.height) 0 old.cells ≡ row
    row-old = rw (← start, ← wide) refl

    row-new : cells_of_row (rows_of r.height) 0 written ≡ part
    row-new = row-here (rows_of r.height) spread 0 at n old.cells part start wide h.rows (rows-inside count) part-count

    made : (f : List Cell → List Cell) → part ≡ f row → (j : ℕ) → j < r.height
        → cells_of_row (rows_of r.height) j written ≡ in_first_row f j (cells_of_row (rows_of r.height) j old.cells)
    made f is zero lt = row-new ∙ is ∙ ap f (sym row-old)
    made f is (suc j) lt =
        let no : (suc j == 0) ≡ false = grind (arith, nat_tests) in
        rw no (row-other (rows_of r.height) spread 0 at n old.cells part start wide h.rows (rows-inside count) part-count
        (suc j) lt (omega arith))

    same_count : length written ≡ length old.cells
    same_count = (stays r.height h.rows (omega arith)).length_stays

    pub first-lent : {A : Type 0} (result : Result A AllocError) (f : List Cell → List Cell) (g : List Cell → List Cell → Type 0)
        → KeepsUnmarked row part → OnOk result (part ≡ f row) → OnErr result (g row part)
        → OnOk result (RendersRows area (in_first_row f) old changed) × OnErr result (ChangesWithin area old changed)
        × OnErr result (LeavesFirstRow g area old changed)
    first-lent (Ok x) f g marks is _ = (
      lent-renders written same_count (in_first_row f) (unmarked-written at n old.cells part marks len)
          (record { keeps = stays r.height h.rows (omega arith); rows = made f is }),
      tt,
      tt,
    )
    first-lent (Err e) f g marks _ left = (
      tt,
      lent-changes written same_count (stays r.height h.rows (omega arith)),
      record {
        marks = rw (new-is written same_count) (unmarked-written at n old.cells part marks len);
        within = subst (λ q. ChangesWithin (first_row q) old changed) h.value
            (rw (new-is written same_count) (changes (first_row r) 1 written (λ p in_own left right top bottom. omega arith)
            (stays 1 (omega arith) (omega (arith, h.rows)))));
        row = rw (new-is written same_count, row-is 0 written, row-is 0 old.cells, row-new, row-old) left;
      },
    )
