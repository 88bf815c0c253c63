-- Changes of each cell of an area: one cell, one after the other, and what stays.
use Rattle.std.proofs.Common.{◌≡◌, ◌≢◌, ℕ, suc, ◌+◌, ◌-◌, ◌*◌, ◌<◌, ◌≤◌, ◌⊎◌, ⊎_elim, inl, inr, length, refl, sym, ap}
use Rattle.std.proofs.Common.{◌∙◌, arith, min, max, Result, Ok, Err, OnOk, OnErr}
use Rattle.std.proofs.lemmas.{Bool.cases_lt, List.get_or-set_other, List.get_or-set_same}
use Rattle.rtui_geometry.specs.{declared.rect.Rect.Rect, declared.position.Position.Position}
use Rattle.rtui_geometry.specs.Rect.{HasPosition, right_edge, bottom_edge, IsInside, intersected}
use Rattle.rtui_cell.specs.{declared.cell.Cell.Cell, Cell.empty_cell}
use Rattle.rtui_buffer.specs.BufferData.{BufferData, cell_in, with_cell, cell_index, position_of}
use Rattle.rtui_widgets.specs.Rendering.{ChangesWithin}
use Rattle.rtui_buffer.specs.Clipped.{IsClipped}
use Rattle.rtui_widgets.specs.Changes.{ChangesEach, place_at, AreLight}
use Rattle.rtui_widgets.specs.Inner.{row_part, IsRowOfArea}

-- the first columns of a row of a rectangle, up to one
abbrev pub columns_to : Rect → ℕ → ℕ → Rect
columns_to r y x = record { x = r.x; y = y; width = x - r.x; height = 1 }

-- the first rows of a rectangle, up to one
abbrev pub rows_to : Rect → ℕ → Rect
rows_to r y = record { x = r.x; y = r.y; width = r.width; height = y - r.y }

rows-apart : (w a b c d : ℕ) → a < w → b < d → b * w + a ≡ d * w + c → ⊥
rows-apart w a b c d la lt e = let k : d ≡ suc b + (d - suc b) = omega arith in let e2 = rw k at e in omega arith

places-apart : (w a b c d : ℕ) → a < w → c < w → (a ≡ c → b ≡ d → ⊥) → b * w + a ≢ d * w + c
places-apart w a b c d la lc other e =
    ⊎_elim
    (λ (lt : b < d). rows-apart w a b c d la lt e)
    (λ (ge : d ≤ b).
    ⊎_elim
    (λ (gt : d < b). rows-apart w c d a b lc gt (sym e))
    (λ (le : b ≤ d). let same : b ≡ d = omega arith in let e2 = rw same at e in other (omega arith) same)
    (cases_lt d b))
    (cases_lt b d)

module _ (s : BufferData) (p : Position) (c : Cell) (has : HasPosition s.area p) where
  pub put-here : cell_index s.area p < length s.cells → cell_in (with_cell s p c) p ≡ c
  put-here inside = get_or-set_same s.cells (cell_index s.area p) c empty_cell inside

  pub put-elsewhere : (q : Position) → HasPosition s.area q → (q.x ≡ p.x → q.y ≡ p.y → ⊥)
      → cell_in (with_cell s p c) q ≡ cell_in s q
  put-elsewhere q in_own other =
      let l = has.left in let r = has.right in let t = has.top in let b = has.bottom in
      let l2 = in_own.left in let r2 = in_own.right in let t2 = in_own.top in let b2 = in_own.bottom in
      get_or-set_other s.cells (cell_index s.area p) (cell_index s.area q) c empty_cell
      (places-apart s.area.width (q.x - s.area.x) (q.y - s.area.y) (p.x - s.area.x) (p.y - s.area.y) (omega arith) (omega arith)
      (λ ex ey. other (omega arith) (omega arith)))

pub Changes-put : (s new : BufferData) (p : Position) (f : Position → Cell → Cell) → cell_index s.area p < length s.cells
    → HasPosition s.area p
    → new ≡ with_cell s p (f p (cell_in s p)) → ChangesEach (place_at p) f s new
Changes-put s new p f place has is = rw is (record {
  area = refl;
  room = refl;
  inside = λ q in_own here.
      let l = here.left in let r = here.right in let t = here.top in let b = here.bottom in
      let ex : q.x ≡ p.x = omega arith in let ey : q.y ≡ p.y = omega arith in
      rw (ex, ey) (put-here s p (f p (cell_in s p)) has place);
  outside = λ q in_own off. put-elsewhere s p (f p (cell_in s p)) has q in_own
      (λ ex ey. let r = has.right in let b = has.bottom in
      off (record { left = omega arith; right = omega arith; top = omega arith; bottom = omega arith }));
})

-- one change after another, apart from it
pub Changes-join : (r1 r2 r : Rect) (f : Position → Cell → Cell) (old mid new : BufferData) → ChangesEach r1 f old mid
    → ChangesEach r2 f mid new
    → ((p : Position) → HasPosition old.area p → HasPosition r p → HasPosition r1 p ⊎ HasPosition r2 p)
    → ((p : Position) → HasPosition r1 p → HasPosition r p) → ((p : Position) → HasPosition r2 p → HasPosition r p)
    → ((p : Position) → HasPosition r1 p → HasPosition r2 p → ⊥)
    → ChangesEach r f old new
Changes-join r1 r2 r f old mid new first second split in1 in2 apart = record {
  area = second.area ∙ first.area;
  room = second.room ∙ first.room;
  inside = λ p in_own here.
      ⊎_elim
      (λ (one : HasPosition r1 p). second.outside p (rw first.area in_own) (λ two. apart p one two) ∙ first.inside p in_own one)
      (λ (two : HasPosition r2 p). second.inside p (rw first.area in_own) two
      ∙ ap (f p) (first.outside p in_own (λ one. apart p one two)))
      (split p in_own here);
  outside = λ p in_own off. second.outside p (rw first.area in_own) (λ two. off (in2 p two))
      ∙ first.outside p in_own (λ one. off (in1 p one));
}

-- the same positions
pub Changes-same : (r1 r2 : Rect) (f : Position → Cell → Cell) (old new : BufferData) → IsInside r1 r2 → IsInside r2 r1
    → ChangesEach r1 f old new → ChangesEach r2 f old new
Changes-same r1 r2 f old new there back is = record {
  area = is.area;
  room = is.room;
  inside = λ p in_own here. is.inside p in_own (back p here);
  outside = λ p in_own off. is.outside p in_own (λ h. off (there p h));
}

pub Changes-none : (r : Rect) (f : Position → Cell → Cell) (s : BufferData) → ((p : Position) → HasPosition r p → ⊥)
    → ChangesEach r f s s
Changes-none r f s none = record {
  area = refl;
  room = refl;
  inside = λ p in_own here. absurd (none p here);
  outside = λ p in_own off. refl;
}

pub Changes-within : (r area : Rect) (f : Position → Cell → Cell) (old new : BufferData) → IsInside r area
    → ChangesEach r f old new → ChangesWithin area old new
Changes-within r area f old new inside is = record {
  same_area = is.area;
  same_room = is.room;
  outside = λ p in_own off. is.outside p in_own (λ h. off (inside p h));
}

-- the next column of a row
pub Changes-column : (part : Rect) (x y : ℕ) (f : Position → Cell → Cell) (old mid new : BufferData) → IsInside part old.area
    → part.x ≤ x → x < right_edge part → IsRowOfArea part y
    → ChangesEach (columns_to part y x) f old mid → ChangesEach (place_at (position_of (x, y))) f mid new
    → ChangesEach (columns_to part y (x + 1)) f old new
Changes-column part x y f old mid new inside from to row first second =
    let top = row.top in let bottom = row.bottom in
    Changes-join (columns_to part y x) (place_at (position_of (x, y))) (columns_to part y (x + 1)) f old mid new first second
    (λ p in_own here. let l = here.left in let r = here.right in let t = here.top in let b = here.bottom in
    ⊎_elim
    (λ (before : p.x < x). inl (record { left = omega arith; right = omega arith; top = omega arith; bottom = omega arith }))
    (λ (behind : x ≤ p.x). inr (record { left = omega arith; right = omega arith; top = omega arith; bottom = omega arith }))
    (cases_lt p.x x))
    (λ p here. let l = here.left in let r = here.right in let t = here.top in let b = here.bottom in
    record { left = omega arith; right = omega arith; top = omega arith; bottom = omega arith })
    (λ p here. let l = here.left in let r = here.right in let t = here.top in let b = here.bottom in
    record { left = omega arith; right = omega arith; top = omega arith; bottom = omega arith })
    (λ p one two. let r = one.right in let l = two.left in omega arith)

-- the next row
pub Changes-row : (part : Rect) (y : ℕ) (f : Position → Cell → Cell) (old mid new : BufferData) → part.y ≤ y
    → y < bottom_edge part
    → ChangesEach (rows_to part y) f old mid → ChangesEach (row_part part y) f mid new
    → ChangesEach (rows_to part (y + 1)) f old new
Changes-row part y f old mid new from to first second =
    Changes-join (rows_to part y) (row_part part y) (rows_to part (y + 1)) f old mid new first second
    (λ p in_own here. let l = here.left in let r = here.right in let t = here.top in let b = here.bottom in
    ⊎_elim
    (λ (before : p.y < y). inl (record { left = omega arith; right = omega arith; top = omega arith; bottom = omega arith }))
    (λ (behind : y ≤ p.y). inr (record { left = omega arith; right = omega arith; top = omega arith; bottom = omega arith }))
    (cases_lt p.y y))
    (λ p here. let l = here.left in let r = here.right in let t = here.top in let b = here.bottom in
    record { left = omega arith; right = omega arith; top = omega arith; bottom = omega arith })
    (λ p here. let l = here.left in let r = here.right in let t = here.top in let b = here.bottom in
    record { left = omega arith; right = omega arith; top = omega arith; bottom = omega arith })
    (λ p one two. let b = one.bottom in let t = two.top in omega arith)

-- all columns of a row, and all rows
pub Changes-columns : (part : Rect) (x y : ℕ) (f : Position → Cell → Cell) (old new : BufferData) → part.x ≤ 65535
    → IsRowOfArea part y → right_edge part ≤ x → (part.x ≤ right_edge part → x ≤ right_edge part)
    → ChangesEach (columns_to part y x) f old new → ChangesEach (row_part part y) f old new
Changes-columns part x y f old new small row past end is =
    let at : x ≡ right_edge part = omega arith in
    Changes-same (columns_to part y x) (row_part part y) f old new
    (λ p here. let l = here.left in let r = here.right in let t = here.top in let b = here.bottom in
    record { left = omega arith; right = omega arith; top = omega arith; bottom = omega arith })
    (λ p here. let l = here.left in let r = here.right in let t = here.top in let b = here.bottom in
    record { left = omega arith; right = omega arith; top = omega arith; bottom = omega arith })
    is

pub Changes-rows : (part : Rect) (y : ℕ) (f : Position → Cell → Cell) (old new : BufferData) → part.y ≤ 65535
    → bottom_edge part ≤ y → (part.y ≤ bottom_edge part → y ≤ bottom_edge part)
    → ChangesEach (rows_to part y) f old new → ChangesEach part f old new
Changes-rows part y f old new small past end is =
    let at : y ≡ bottom_edge part = omega arith in
    Changes-same (rows_to part y) part f old new
    (λ p here. let l = here.left in let r = here.right in let t = here.top in let b = here.bottom in
    record { left = omega arith; right = omega arith; top = omega arith; bottom = omega arith })
    (λ p here. let l = here.left in let r = here.right in let t = here.top in let b = here.bottom in
    record { left = omega arith; right = omega arith; top = omega arith; bottom = omega arith })
    is

pub row-inside : (part : Rect) (y : ℕ) → IsRowOfArea part y → IsInside (row_part part y) part
row-inside part y row = λ p here. let l = here.left in let r = here.right in let t = here.top in let b = here.bottom in
    let top = row.top in let bottom = row.bottom in
    record { left = omega arith; right = omega arith; top = omega arith; bottom = omega arith }

pub columns-inside : (part : Rect) (x y : ℕ) → IsRowOfArea part y → x ≤ right_edge part → IsInside (columns_to part y x) part
columns-inside part x y row le = λ p here. let l = here.left in let r = here.right in let t = here.top in let b = here.bottom in
    let top = row.top in let bottom = row.bottom in
    record { left = omega arith; right = omega arith; top = omega arith; bottom = omega arith }

pub rows-inside : (part : Rect) (y : ℕ) → y ≤ bottom_edge part → IsInside (rows_to part y) part
rows-inside part y le = λ p here. let l = here.left in let r = here.right in let t = here.top in let b = here.bottom in
    record { left = omega arith; right = omega arith; top = omega arith; bottom = omega arith }

no-columns : (part : Rect) (y x : ℕ) → x ≡ part.x → (p : Position) → HasPosition (columns_to part y x) p → ⊥
no-columns part y x e p here = let l = here.left in let r = here.right in omega arith

no-rows : (part : Rect) (y : ℕ) → y ≡ part.y → (p : Position) → HasPosition (rows_to part y) p → ⊥
no-rows part y e p here = let t = here.top in let b = here.bottom in omega arith

pub Changes-no_columns : (part : Rect) (y x : ℕ) (f : Position → Cell → Cell) (s : BufferData) → x ≡ part.x
    → ChangesEach (columns_to part y x) f s s
Changes-no_columns part y x f s e = Changes-none (columns_to part y x) f s (no-columns part y x e)

pub Changes-no_rows : (part : Rect) (y : ℕ) (f : Position → Cell → Cell) (s : BufferData) → y ≡ part.y
    → ChangesEach (rows_to part y) f s s
Changes-no_rows part y f s e = Changes-none (rows_to part y) f s (no-rows part y e)

-- a part still has what an earlier change left outside
pub light-still : (is_light : Position → Cell → Type 0) (area r : Rect) (f : Position → Cell → Cell) (old mid : BufferData)
    (p : Position) → AreLight is_light area old → IsInside area old.area → HasPosition area p
    → ¬ (HasPosition r p) → ChangesEach r f old mid → is_light p (cell_in mid p)
light-still is_light area r f old mid p light inside here off is = rw (is.outside p (inside p here) off)
    (light p (inside p here) here)

pub within-same : (area : Rect) (s : BufferData) → ChangesWithin area s s
within-same area s = record { same_area = refl; same_room = refl; outside = λ p in_own off. refl }

pub on-ok : {A E P Q : Type 0} (r : Result A E) → (P → Q) → OnOk r P → OnOk r Q
on-ok (Ok x) f p = f p
on-ok (Err e) f p = tt

pub put-changes : {A E : Type 0} (r : Result A E) (s : BufferData) (p : Position) (c lent : Cell) (f : Position → Cell → Cell)
    → cell_index s.area p < length s.cells → HasPosition s.area p → lent ≡ cell_in s p → OnOk r (c ≡ f p lent)
    → OnOk r (ChangesEach (place_at p) f s (with_cell s p c))
put-changes (Ok x) s p c lent f place has here made =
    Changes-put s (with_cell s p c) p f place has (ap (with_cell s p) (made ∙ ap (f p) here))
put-changes (Err e) s p c lent f place has here made = tt

pub row-place : (part : Rect) (x y : ℕ) → IsRowOfArea part y → part.x ≤ x → x < right_edge part
    → HasPosition part (position_of (x, y))
row-place part x y row from to = let t = row.top in let b = row.bottom in record { left = from; right = to; top = t; bottom = b }

pub row-place_of_row : (part : Rect) (x y : ℕ) → IsRowOfArea part y → part.x ≤ x → x < right_edge part
    → HasPosition (row_part part y) (position_of (x, y))
row-place_of_row part x y row from to = let t = row.top in let b = row.bottom in
    record { left = from; right = to; top = omega arith; bottom = omega arith }

pub columns-off : (part : Rect) (x y : ℕ) → HasPosition (columns_to part y x) (position_of (x, y)) → ⊥
columns-off part x y h = let l = h.left in let r = h.right in omega arith

pub inside-still : (part : Rect) (old mid : BufferData) → IsInside part old.area → mid.area ≡ old.area → IsInside part mid.area
inside-still part old mid inside same = λ p h. rw same (inside p h)

pub light-rows : (is_light : Position → Cell → Type 0) (part : Rect) (y : ℕ) (f : Position → Cell → Cell) (old mid : BufferData)
    → AreLight is_light part old → IsRowOfArea part y → IsInside part old.area → ChangesEach (rows_to part y) f old mid
    → AreLight is_light (row_part part y) mid
light-rows is_light part y f old mid light row inside is = λ p in_own here.
    light-still is_light part (rows_to part y) f old mid p light inside (row-inside part y row p here)
    (λ h. let b = h.bottom in let t = here.top in omega arith) is

pub row-in_own : (part : Rect) (y : ℕ) (own : Rect) → IsRowOfArea part y → IsInside part own → IsInside (row_part part y) own
row-in_own part y own row inside = λ p here. inside p (row-inside part y row p here)

-- a position that the area and the buffer have is one of the part
pub clipped-both : (area own part : Rect) (p : Position) → IsClipped area own part → HasPosition area p → HasPosition own p
    → HasPosition part p
clipped-both area own part p is here in_own =
    let x : part.x ≡ max area.x own.x = ap (λ q. q.x) is.value in
    let y : part.y ≡ max area.y own.y = ap (λ q. q.y) is.value in
    let w : part.width ≡ min (right_edge area) (right_edge own) - max area.x own.x = ap (λ q. q.width) is.value in
    let h : part.height ≡ min (bottom_edge area) (bottom_edge own) - max area.y own.y = ap (λ q. q.height) is.value in
    let l1 = here.left in let r1 = here.right in let t1 = here.top in let b1 = here.bottom in
    let l2 = in_own.left in let r2 = in_own.right in let t2 = in_own.top in let b2 = in_own.bottom in
    record { left = omega arith; right = omega arith; top = omega arith; bottom = omega arith }

-- the buffer has no part of the area
pub clipped-none : (area own : Rect) (p : Position) → ((intersected area own).width ≡ 0) ⊎ ((intersected area own).height ≡ 0)
    → HasPosition area p → HasPosition own p → ⊥
clipped-none area own p none here in_own =
    let l1 = here.left in let r1 = here.right in let t1 = here.top in let b1 = here.bottom in
    let l2 = in_own.left in let r2 = in_own.right in let t2 = in_own.top in let b2 = in_own.bottom in
    ⊎_elim (λ (e : (intersected area own).width ≡ 0). omega arith) (λ (e : (intersected area own).height ≡ 0). omega arith) none

-- a change of the part that the buffer has is one of the area
pub Changes-clipped : (area part : Rect) (f : Position → Cell → Cell) (old new : BufferData) → IsClipped area old.area part
    → ChangesEach part f old new → ChangesEach area f old new
Changes-clipped area part f old new clip is = record {
  area = is.area;
  room = is.room;
  inside = λ p in_own here. is.inside p in_own (clipped-both area old.area part p clip here in_own);
  outside = λ p in_own off. is.outside p in_own (λ h. off (clip.of_area p h));
}

pub Changes-nowhere : (area : Rect) (f : Position → Cell → Cell) (s : BufferData) → ((intersected area s.area).width ≡ 0)
    ⊎ ((intersected area s.area).height ≡ 0) → ChangesEach area f s s
Changes-nowhere area f s none = record {
  area = refl;
  room = refl;
  inside = λ p in_own here. absurd (clipped-none area s.area p none here in_own);
  outside = λ p in_own off. refl;
}

-- within a smaller area
pub within-wider : (part area : Rect) (old new : BufferData) → IsInside part area → ChangesWithin part old new
    → ChangesWithin area old new
within-wider part area old new inside is = record {
  same_area = is.same_area;
  same_room = is.same_room;
  outside = λ p in_own off. is.outside p in_own (λ h. off (inside p h));
}

-- what the change of a part leaves is what that of its area does
pub clipped-ok : {A E : Type 0} (r : Result A E) (area part : Rect) (f : Position → Cell → Cell) (old new : BufferData)
    → IsClipped area old.area part → OnOk r (ChangesEach part f old new) → OnOk r (ChangesEach area f old new)
clipped-ok (Ok x) area part f old new clip is = Changes-clipped area part f old new clip is
clipped-ok (Err e) area part f old new clip is = tt

pub clipped-err : {A E : Type 0} (r : Result A E) (area part : Rect) (old new : BufferData) → IsClipped area old.area part
    → OnErr r (ChangesWithin part old new) → OnErr r (ChangesWithin area old new)
clipped-err (Ok x) area part old new clip is = tt
clipped-err (Err e) area part old new clip is = within-wider part area old new clip.of_area is
