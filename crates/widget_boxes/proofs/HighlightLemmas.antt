-- Highlighting a row column by column, and an area row by row.
use Rattle.std.proofs.Common.{◌≡◌, ℕ, zero, suc, ◌+◌, ◌-◌, ◌<◌, ◌≤◌, ◌⊎◌, ⊎_elim, inl, inr, max, Bool, true, false, nat_lt, length}
use Rattle.std.proofs.Common.{if◌then◌else◌, refl, sym, ap, subst, ◌∙◌, arith}
use Rattle.std.proofs.lemmas.{Bool.cases_lt, Bool.Decides.nat_tests}
use Rattle.ratatui_core.specs.Layout.{Rect, Position, HasPosition, IsInside, right_edge, bottom_edge, intersected}
use Rattle.ratatui_core.specs.{Style.Style, Widgets.IsClipped}
use Rattle.ratatui_core.specs.Buffer.{BufferData, Cell, cell_in, cell_index, with_cell, position_of, styled, width_of, ChangesEach}
use Rattle.ratatui_core.specs.Buffer.{place_at}
use Rattle.rtui_widgets.specs.Inner.{row_part, IsRowOfArea}
use Rattle.rtui_widgets.proofs.ChangeLemmas.{columns_to, rows_to, Changes-column, Changes-row, Changes-put, columns-off, row-place}
use Rattle.rtui_widgets.proofs.ChangeLemmas.{clipped-both, clipped-none}
use Rattle.widget_boxes.specs.Highlights.{IsContinuation, IsLitAt, IsHighlighted}
use Rattle.widget_boxes.specs.Inner.{ends_of, highlighted}

-- the cell of a column and a row, and where its symbol ends
abbrev at : BufferData → ℕ → ℕ → Cell
at s x y = cell_in s (position_of (x, y))

abbrev end_at : BufferData → ℕ → ℕ → ℕ
end_at s x y = x + width_of (at s x y)

-- none ends farther right
ends-least : (s : BufferData) (y from n k : ℕ) → k < n → end_at s (from + k) y ≤ ends_of s y from n
unfolding ends_of
ends-least s y from zero k lt = absurd (omega arith)
ends-least s y from (suc n) k lt =
    ⊎_elim
    (λ (less : k < n). let le = ends-least s y from n k less in omega arith)
    (λ (ge : n ≤ k). let e : k ≡ n = omega arith in rw e (omega arith))
    (cases_lt k n)

-- and one ends there
ends-some : (s : BufferData) (y from n x : ℕ) → x < ends_of s y from n → (k : ℕ) × (k < n) × (x < end_at s (from + k) y)
unfolding ends_of
ends-some s y from zero x lt = absurd (omega arith)
ends-some s y from (suc n) x lt =
    ⊎_elim
    (λ (before : x < ends_of s y from n). let one = ends-some s y from n x before in (one.0, omega (arith, one.1), one.2))
    (λ (ge : ends_of s y from n ≤ x). (n, omega arith, omega arith))
    (cases_lt x (ends_of s y from n))

ends-same : (s t : BufferData) (y from n : ℕ) → ((k : ℕ) → k < n → at t (from + k) y ≡ at s (from + k) y)
    → ends_of t y from n ≡ ends_of s y from n
unfolding ends_of
ends-same s t y from zero same = refl
ends-same s t y from (suc n) same =
    let before : ends_of t y from n ≡ ends_of s y from n = ends-same s t y from n (λ k lt. same k (omega arith)) in
    let last : width_of (at t (from + n) y) ≡ width_of (at s (from + n) y) = ap width_of (same n (omega arith)) in
    rw (before, last) refl

pub ends-none : (s : BufferData) (y from n : ℕ) → n ≡ 0 → 0 ≡ ends_of s y from n
unfolding ends_of
ends-none s y from n e = rw e refl

ends-next : (s : BufferData) (y from n : ℕ) → ends_of s y from (suc n) ≡ max (ends_of s y from n) (end_at s (from + n) y)
unfolding ends_of
ends-next s y from n = refl

-- what changes each cell of a rectangle so does it by what says the same there
Changes-as : (r : Rect) (f g : Position → Cell → Cell) (old new : BufferData)
    → ((p : Position) → HasPosition old.area p → HasPosition r p → (c : Cell) → f p c ≡ g p c)
    → ChangesEach r f old new → ChangesEach r g old new
Changes-as r f g old new same is = record {
  area = is.area;
  room = is.room;
  inside = λ p in_own here. is.inside p in_own here ∙ same p in_own here (cell_in old p);
  outside = is.outside;
}

module _ (style : Style) (part : Rect) (start : BufferData) (inside : IsInside part start.area) where
  -- one column more of a row
  module _ (x y end : ℕ) (mid : BufferData) (row : IsRowOfArea part y) (from : part.x ≤ x) (to : x < right_edge part)
      (is : ChangesEach (columns_to part y x) (highlighted style part start) start mid)
      (ends : end ≡ ends_of start y part.x (x - part.x)) where
    abbrev here : Position
    here = position_of (x, y)

    in-own : HasPosition start.area here
    in-own = inside here (row-place part x y row from to)

    same-cell : cell_in mid here ≡ cell_in start here
    same-cell = is.outside here in-own (columns-off part x y)

    pub column-lit : (lent c : Cell) → cell_index mid.area here < length mid.cells → lent ≡ cell_in mid here
        → c ≡ (if nat_lt x end then lent else styled style lent)
        → ChangesEach (columns_to part y (x + 1)) (highlighted style part start) start (with_cell mid here c)
    column-lit lent c place was now =
        let made : c ≡ highlighted style part start here (cell_in mid here) = rw (← ends, ← was) now in
        Changes-column part x y (highlighted style part start) start mid (with_cell mid here c) inside from to row is
        (Changes-put mid (with_cell mid here c) here (highlighted style part start) place (rw is.area in-own)
        (ap (with_cell mid here) made))

    pub column-ends : (lent : Cell) (columns : ℕ) → lent ≡ cell_in mid here → columns ≡ width_of lent
        → max end (x + columns) ≡ ends_of start y part.x (x + 1 - part.x)
    column-ends lent columns was wide =
        let w : columns ≡ width_of (at start x y) = wide ∙ ap width_of (was ∙ same-cell) in
        let e : x + 1 - part.x ≡ suc (x - part.x) = omega arith in
        let z : part.x + (x - part.x) ≡ x = omega arith in
        rw (e, ends-next start y part.x (x - part.x), z, ends, w) refl

  -- one row more
  pub row-lit : (y : ℕ) (mid new : BufferData) → part.y ≤ y → y < bottom_edge part
      → ChangesEach (rows_to part y) (highlighted style part start) start mid
      → ChangesEach (row_part part y) (highlighted style part mid) mid new
      → ChangesEach (rows_to part (y + 1)) (highlighted style part start) start new
  row-lit y mid new from to is more =
      Changes-row part y (highlighted style part start) start mid new from to is
      (Changes-as (row_part part y) (highlighted style part mid) (highlighted style part start) mid new
      (λ p in_mid here c.
      let t = here.top in let b = here.bottom in let r = here.right in let l = here.left in
      let e : ends_of mid p.y part.x (p.x - part.x) ≡ ends_of start p.y part.x (p.x - part.x) =
      ends-same start mid p.y part.x (p.x - part.x) (λ k lt.
      is.outside (position_of (part.x + k, p.y)) (inside (position_of (part.x + k, p.y)) (record {
        left = omega arith;
        right = omega arith;
        top = omega arith;
        bottom = omega arith;
      })) (λ h. let u = h.bottom in omega arith)) in
      rw e refl) more)

-- all rows of the part are the area, as far as the buffer has it
module _ (style : Style) (area part : Rect) (old new : BufferData) (clip : IsClipped area old.area part)
    (is : ChangesEach part (highlighted style part old) old new) where
  -- a symbol reaches over a position
  reached : (p : Position) → HasPosition part p → p.x < ends_of old p.y part.x (p.x - part.x) → IsContinuation area old p
  reached p here lt =
      let one = ends-some old p.y part.x (p.x - part.x) p.x lt in
      let k_in = one.1 in
      let l = here.left in let r = here.right in let t = here.top in let b = here.bottom in
      let q : Position = position_of (part.x + one.0, p.y) in
      let there : HasPosition part q = record { left = omega arith; right = omega arith; top = t; bottom = b } in
      record {
        column = part.x + one.0;
        before = omega arith;
        own = clip.of_own q there;
        there = clip.of_area q there;
        reaches = one.2;
      }

  -- or none does
  free : (p : Position) → HasPosition part p → ends_of old p.y part.x (p.x - part.x) ≤ p.x → IsContinuation area old p → ⊥
  free p here ge is_behind =
      let there = clipped-both area old.area part (position_of (is_behind.column, p.y)) clip is_behind.there is_behind.own in
      let l = there.left in let before = is_behind.before in let far = is_behind.reaches in
      let e : part.x + (is_behind.column - part.x) ≡ is_behind.column = omega arith in
      let le = ends-least old p.y part.x (p.x - part.x) (is_behind.column - part.x) (omega arith) in
      let le2 : end_at old is_behind.column p.y ≤ ends_of old p.y part.x (p.x - part.x) =
      subst (λ x. end_at old x p.y ≤ ends_of old p.y part.x (p.x - part.x)) e le in
      omega arith

  lit-at : (p : Position) → HasPosition old.area p → HasPosition part p → IsLitAt area style old new p
  lit-at p in_own there =
      let now = is.inside p in_own there in
      ⊎_elim
      (λ (lt : p.x < ends_of old p.y part.x (p.x - part.x)).
      let yes : nat_lt p.x (ends_of old p.y part.x (p.x - part.x)) ≡ true = grind (arith, nat_tests) in
      inl (reached p there lt, rw yes at now))
      (λ (ge : ends_of old p.y part.x (p.x - part.x) ≤ p.x).
      let no : nat_lt p.x (ends_of old p.y part.x (p.x - part.x)) ≡ false = grind (arith, nat_tests) in
      inr (free p there ge, rw no at now))
      (cases_lt p.x (ends_of old p.y part.x (p.x - part.x)))

  pub area-lit : IsHighlighted area style old new
  area-lit = record {
    area = is.area;
    room = is.room;
    inside = λ p in_own here. lit-at p in_own (clipped-both area old.area part p clip here in_own);
    outside = λ p in_own off. is.outside p in_own (λ there. off (clip.of_area p there));
  }

-- nothing is highlighted of nothing
pub none-lit : (style : Style) (area : Rect) (s : BufferData) → ((intersected area s.area).width ≡ 0)
    ⊎ ((intersected area s.area).height ≡ 0) → IsHighlighted area style s s
none-lit style area s none = record {
  area = refl;
  room = refl;
  inside = λ p in_own here. absurd (clipped-none area s.area p none here in_own);
  outside = λ p in_own off. refl;
}
