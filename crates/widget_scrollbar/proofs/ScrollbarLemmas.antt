-- A scroll bar, painted from its start to its end.
use Rattle.std.proofs.Common.{lit<, sym, subst, ◌≡◌, ℕ, zero, suc, ◌+◌, ◌-◌, ◌<◌, ◌≤◌, ⊎_elim, inl, inr, Bool, true, false}
use Rattle.std.proofs.Common.{if◌then◌else◌, nat_lt, List, [], ◌∷◌, All, Option, Some, None, refl, ap, ◌∙◌, arith, Result, Ok}
use Rattle.std.proofs.Common.{Err, OnOk}
use Rattle.std.proofs.lemmas.{Bool.cases_lt}
use Rattle.std.specs.{declared.alloc.AllocError.AllocError, Borrow.Bor}
use Rattle.ratatui_core.specs.Layout.{Rect, Position, HasPosition, IsInside, EdgesFit}
use Rattle.ratatui_core.specs.Style.{Style}
use Rattle.ratatui_core.specs.Buffer.{BufferData, Cell, Piece, piece_of, columns, PaintsPieces, pieces_at, painted_width, cell_in}
use Rattle.ratatui_core.specs.Buffer.{room_at, right_by, ChangesEach}
use Rattle.ratatui_core.specs.{Widgets.ChangesWithin, Widgets.IsClipped}
use Rattle.ratatui_core.proofs.BufferLemmas.{within-wider, grapheme-piece, PaintsByColumns-paints}
use Rattle.ratatui_core.proofs.WidgetLemmas.{OnPart-clipped}
use Rattle.widget_boxes.specs.{Boxes.IsBoxArea}
use Rattle.rtui_drawing.proofs.DrawingLemmas.{cut-inside}
use Rattle.widget_boxes.proofs.{PaintLemmas.part-has_row, BoxLemmas.box-area}
use Rattle.widget_scrollbar.specs.{declared.scrollbar.Scrollbar.Scrollbar, declared.scrollbar.Marks.Marks}
use Rattle.widget_scrollbar.specs.{declared.scrollbar.state.ScrollbarState.ScrollbarState}
use Rattle.widget_scrollbar.specs.{declared.scrollbar.ScrollbarOrientation.ScrollbarOrientation}
use Rattle.widget_scrollbar.specs.declared.scrollbar.ScrollbarOrientation.TheVariants.{VerticalRight, VerticalLeft}
use Rattle.widget_scrollbar.specs.declared.scrollbar.ScrollbarOrientation.TheVariants.{HorizontalBottom, HorizontalTop}
use Rattle.widget_scrollbar.specs.Scrollbars.{side_cut, bar_area, bar_length, is_upright, track_length, mark_of, marks_of, marked}
use Rattle.widget_scrollbar.specs.Scrollbars.{marked_cell, position_on_bar, place_on_bar, bar_symbols, PaintsIfSymbol, PaintsMarks}
use Rattle.widget_scrollbar.specs.Scrollbars.{IsOneColumn, IfSymbol, EachSymbol, MarksBar, RendersScrollbar}
use Rattle.widget_scrollbar.specs.Inner.{StandsIn}

-- what holds of each symbol of a bar holds of the one at a place
choice : (P : Option (Bor (List ℕ)) → Type 0) (t : Bool) (a b : Option (Bor (List ℕ)) × Style) → P a.0 → P b.0
    → P (if t then a else b).0
choice P true a b pa pb = pa
choice P false a b pa pb = pb

pub mark-has : (P : Option (Bor (List ℕ)) → Type 0) (m : Marks) (k : ℕ) → All P (bar_symbols m.bar) → P (mark_of m k).0
mark-has P m k all =
    let track : P m.bar.track_symbol = all 1 None (lit< tt) in
    choice P (nat_lt k m.track) _ _ (all 2 None (lit< tt))
    (choice P (nat_lt k m.thumb) _ _ track
    (choice P (nat_lt k m.after_thumb) _ _ (all 0 None (lit< tt))
    (choice P (nat_lt k m.after_track) _ _ track (all 3 None (lit< tt)))))

-- a bar of n places is a row or a column
abbrev IsBar : Bool → Rect → ℕ → Type 0
IsBar true a n = (a.width ≡ 1) × (a.height ≡ n)
IsBar false a n = (a.height ≡ 1) × (a.width ≡ n)

-- where a place stands, and the place of a position
abbrev stands_at : Bool → Rect → ℕ → Position
stands_at t a k = if t then record { x = a.x; y = a.y + k } else record { x = a.x + k; y = a.y }

abbrev place_at : Bool → Rect → Position → ℕ
place_at t a p = if t then p.y - a.y else p.x - a.x

same-position : (p q : Position) → p.x ≡ q.x → p.y ≡ q.y → p ≡ q
same-position p q x y = λ i. record { x = x i; y = y i }

stands-apart : (t : Bool) (a : Rect) (k j : ℕ) → stands_at t a k ≡ stands_at t a j → k ≡ j
stands-apart true a k j e = let y = ap (λ (p : Position). p.y) e in omega arith
stands-apart false a k j e = let x = ap (λ (p : Position). p.x) e in omega arith

stands-has : (t : Bool) (a : Rect) (n k : ℕ) → EdgesFit a → IsBar t a n → k < n → HasPosition a (stands_at t a k)
stands-has true a n k fit is lt = let w = is.0 in let h = is.1 in let x = fit.right in let y = fit.bottom in
    record { left = omega arith; right = omega arith; top = omega arith; bottom = omega arith }
stands-has false a n k fit is lt = let h = is.0 in let w = is.1 in let x = fit.right in let y = fit.bottom in
    record { left = omega arith; right = omega arith; top = omega arith; bottom = omega arith }

stands-there : (t : Bool) (a : Rect) (n : ℕ) (p : Position) → IsBar t a n → HasPosition a p
    → (stands_at t a (place_at t a p) ≡ p) × (place_at t a p < n)
stands-there true a n p is h =
    let w = is.0 in let e = is.1 in let l = h.left in let r = h.right in let t = h.top in let b = h.bottom in
    (same-position _ p (omega arith) (omega arith), omega arith)
stands-there false a n p is h =
    let e = is.0 in let w = is.1 in let l = h.left in let r = h.right in let t = h.top in let b = h.bottom in
    (same-position _ p (omega arith) (omega arith), omega arith)

-- a bar at its side of a part
bar-is : (o : ScrollbarOrientation) (r : Rect) → IsBoxArea r → IsBar (is_upright o) (bar_area o r) (bar_length o r)
bar-is VerticalRight r box = let w = box.columns in (omega arith, refl)
bar-is VerticalLeft r box = let w = box.columns in (omega arith, refl)
bar-is HorizontalBottom r box = let h = box.rows in (omega arith, refl)
bar-is HorizontalTop r box = let h = box.rows in (omega arith, refl)

bar-fits : (o : ScrollbarOrientation) (r : Rect) → IsBoxArea r → EdgesFit (bar_area o r)
bar-fits VerticalRight r box = let w = box.columns in let a = box.across in record { right = omega arith; bottom = box.down }
bar-fits VerticalLeft r box = let w = box.columns in let a = box.across in record { right = omega arith; bottom = box.down }
bar-fits HorizontalBottom r box = let h = box.rows in let d = box.down in record { right = box.across; bottom = omega arith }
bar-fits HorizontalTop r box = let h = box.rows in let d = box.down in record { right = box.across; bottom = omega arith }

pub bar-stands : (b : Scrollbar) (s : ScrollbarState) (r : Rect) → IsBoxArea r
    → StandsIn (marks_of b s r) (bar_length b.orientation r) r
bar-stands b s r box = λ k lt.
    cut-inside (side_cut b.orientation r) r (position_on_bar (marks_of b s r) k)
    (stands-has (is_upright b.orientation) (bar_area b.orientation r) (bar_length b.orientation r) k
    (bar-fits b.orientation r box) (bar-is b.orientation r box) lt)

-- a symbol of one column changes its own cell alone
record ChangesOne (p : Position) (f : Cell → Cell) (old new : BufferData) : Type 0 where
  area : new.area ≡ old.area
  room : new.room ≡ old.room
  here : cell_in new p ≡ f (cell_in old p)
  rest : (q : Position) → HasPosition old.area q → (q ≡ p → ⊥) → cell_in new q ≡ cell_in old q

one-column : (r : Rect) (p : Position) (q : Option (Bor (List ℕ)) × Style) (old new : BufferData) → IsBoxArea r
    → IsInside r old.area → HasPosition r p → IfSymbol IsOneColumn q.0 → PaintsIfSymbol r p q old new
    → ChangesOne p (marked q) old new
unfolding painted_width
one-column r p (None, style) old new box inside here one same = record {
  area = ap (λ s. s.area) same;
  room = ap (λ s. s.room) same;
  here = ap (λ s. cell_in s p) same;
  rest = λ q own off. ap (λ s. cell_in s q) same;
}
one-column r p (Some symbol, style) old new box inside here one is =
    let l = here.left in let e = here.right in let t = here.top in let b = here.bottom in
    let own = inside p here in let end = own.right in let start = own.left in
    let w : painted_width symbol.now ≡ 1 = rw one.shows one.columns in
    let max = r.x + r.width - p.x in
    let piece : pieces_at old.area p.x max style symbol.now ≡ piece_of style symbol.now ∷ [] =
    grapheme-piece (room_at old.area p.x max) style symbol.now one.one (omega arith) (omega arith) in
    let ps : List Piece = piece_of style symbol.now ∷ [] in
    let own_width = one.columns in
    let width : columns ps ≡ 1 = omega arith in
    let by = PaintsByColumns-paints p ps old new (part-has_row r old.area p.y box inside t (omega arith)) start (omega arith)
    (subst (λ qs. PaintsPieces p qs old new) piece is) in
    let place : right_by 0 p ≡ p = same-position (right_by 0 p) p (omega arith) refl in
    record {
      area = is.area;
      room = is.room;
      here = subst (λ z. cell_in new z ≡ marked (Some symbol, style) (cell_in old z)) place (by.starts 0 (lit< tt));
      rest = λ q own off. by.outside q own (λ row.
          ⊎_elim
          (λ (before : q.x < p.x). inl before)
          (λ (from : p.x ≤ q.x).
          ⊎_elim (λ (after : p.x < q.x). inr (omega arith))
          (λ (le : q.x ≤ p.x). absurd (off (same-position q p (omega arith) row)))
          (cases_lt p.x q.x))
          (cases_lt q.x p.x));
    }

-- symbols of one column, one after the other: each its own cell
module _ (m : Marks) (r : Rect) (box : IsBoxArea r) (one : EachSymbol IsOneColumn m.bar) where
  record HasMarks (n : ℕ) (old new : BufferData) : Type 0 where
    area : new.area ≡ old.area
    room : new.room ≡ old.room
    at : (k : ℕ) → k < n
        → cell_in new (position_on_bar m k) ≡ marked (mark_of m k) (cell_in old (position_on_bar m k))
    rest : (p : Position) → HasPosition old.area p → ((k : ℕ) → k < n → position_on_bar m k ≡ p → ⊥)
        → cell_in new p ≡ cell_in old p

  marks-one : (n : ℕ) (old new : BufferData) → IsInside r old.area → StandsIn m n r → PaintsMarks m r n old new
      → HasMarks n old new
  marks-one zero old new inside stands same = record {
    area = ap (λ s. s.area) same;
    room = ap (λ s. s.room) same;
    at = λ k lt. absurd (omega arith);
    rest = λ p own off. ap (λ s. cell_in s p) same;
  }
  marks-one (suc n) old new inside stands is =
      let mid = is.between in
      let was = marks-one n old mid inside (λ k lt. stands k (omega arith)) is.first in
      let there : IsInside r mid.area = λ p h. rw was.area (inside p h) in
      let own = inside (position_on_bar m n) (stands n (omega arith)) in
      let step = one-column r (position_on_bar m n) (mark_of m n) mid new box there (stands n (omega arith))
      (mark-has (IfSymbol IsOneColumn) m n one) is.second in
      record {
        area = step.area ∙ was.area;
        room = step.room ∙ was.room;
        at = λ k lt.
            ⊎_elim
            (λ (less : k < n).
            step.rest (position_on_bar m k) (there (position_on_bar m k) (stands k lt)) (λ e.
            let same : k ≡ n = stands-apart m.is_vertical m.area k n e in omega arith)
            ∙ was.at k less)
            (λ (ge : n ≤ k).
            let e : n ≡ k = omega arith in
            subst (λ j. cell_in new (position_on_bar m j) ≡ marked (mark_of m j) (cell_in old (position_on_bar m j))) e
            (step.here ∙ ap (marked (mark_of m n)) (was.rest (position_on_bar m n) own (λ j less e.
            let same : j ≡ n = stands-apart m.is_vertical m.area j n e in omega arith))))
            (cases_lt k n);
        rest = λ p h off.
            step.rest p (rw was.area h) (λ e. off n (omega arith) (sym e)) ∙ was.rest p h (λ k lt e. off k (omega arith) e);
      }

  marks-cells : (n : ℕ) (old new : BufferData) → EdgesFit m.area → IsBar m.is_vertical m.area n → HasMarks n old new
      → ChangesEach m.area (marked_cell m) old new
  marks-cells n old new own is has = record {
    area = has.area;
    room = has.room;
    inside = λ p _ h.
        let there = stands-there m.is_vertical m.area n p is h in
        subst (λ q. cell_in new q ≡ marked (mark_of m (place_on_bar m p)) (cell_in old q)) there.0
        (has.at (place_on_bar m p) there.1);
    outside = λ p h off. has.rest p h (λ k lt e.
        off (subst (HasPosition m.area) e (stands-has m.is_vertical m.area n k own is lt)));
  }

-- a bar over the part of an area
pub bar-renders : {A : Type 0} (res : Result A AllocError) (b : Scrollbar) (s : ScrollbarState) (area part : Rect)
    (old new : BufferData) → IsClipped area old.area part → 0 < s.content_length
    → 0 < track_length b (bar_length b.orientation part) → ChangesWithin part old new
    → OnOk res (PaintsMarks (marks_of b s part) part (bar_length b.orientation part) old new)
    → OnOk res (RendersScrollbar b s s area old new)
bar-renders (Ok v) b s area part old new clip some track within painted = record {
  state = refl;
  within = within-wider part area old new clip.of_area within;
  bar = OnPart-clipped (MarksBar b s) area part old new clip (record {
    none = λ none. ⊎_elim (λ (e : s.content_length ≡ 0). absurd (omega arith))
        (λ (e : track_length b (bar_length b.orientation part) ≡ 0). absurd (omega arith)) none;
    some = λ _ _. painted;
    cells = λ _ _ one.
        let box = box-area area old.area part clip in
        let m = marks_of b s part in
        let n = bar_length b.orientation part in
        marks-cells m part box one n old new (bar-fits b.orientation part box) (bar-is b.orientation part box)
        (marks-one m part box one n old new clip.of_own (bar-stands b s part box) painted);
  });
}
bar-renders (Err e) b s area part old new clip some track within painted = tt
