-- What the author of a widget cites: a buffer changed over the part of an area that it has, and pieces on a bar there.
use Rattle.std.proofs.Common.{◌≡◌, ℕ, ◌<◌, ◌≤◌, ◌⊎◌, List, refl, sym, ap, subst, arith, Result, Ok, Err, OnOk, OnErr}
use Rattle.std.specs.declared.alloc.AllocError.{AllocError}
use Rattle.rtui_geometry.specs.{declared.rect.Rect.Rect}
use Rattle.rtui_geometry.specs.Rect.{EdgesFit, corner, intersected}
use Rattle.rtui_style.specs.declared.Style.{Style}
use Rattle.rtui_text.specs.Text.{LineData}
use Rattle.rtui_buffer.specs.{BufferData.BufferData, BufferData.IsEmptied, Shown.IsSettledBuffer, Painting.Piece}
use Rattle.rtui_buffer.specs.{Painting.columns, Bar.bar_of, Bar.PaintsOnBar}
use Rattle.rtui_buffer.specs.PaintedText.{IsStyled, IsSameBeside, Paints, PaintsPieces}
use Rattle.rtui_buffer.specs.{Line.line_pieces_at, Clipped.IsClipped}
use Rattle.rtui_buffer.proofs.{ColumnLemmas.line-ends, ColumnLemmas.line-keeps, ShownLemmas.IsSettledBuffer-styled}
use Rattle.rtui_buffer.proofs.{ShownLemmas.IsPaintable-styled, PaintsLemmas.IsSettledBuffer-painted, PaintsLemmas.front-beside}
use Rattle.rtui_widgets.specs.{Rendering.ChangesWithin, Clipped.OnPart}
use Rattle.rtui_widgets.proofs.WithinLemmas.{intersected-whole, part-around, part-row, within-then, within-styled, within-beside}

-- the buffer has no part of the area
pub OnPart-none : (f : Rect → BufferData → BufferData → Type 0) (area : Rect) (s : BufferData)
    → ((intersected area s.area).width ≡ 0) ⊎ ((intersected area s.area).height ≡ 0) → OnPart f area s s
OnPart-none f area s none = record {
  nothing = λ _. refl;
  part = λ wide high. absurd (omega arith);
}

-- it has this part
pub OnPart-clipped : (f : Rect → BufferData → BufferData → Type 0) (area part : Rect) (old new : BufferData)
    → IsClipped area old.area part → f part old new → OnPart f area old new
OnPart-clipped f area part old new is done =
    let wide : part.width ≡ (intersected area old.area).width = ap (λ q. q.width) is.value in
    let high : part.height ≡ (intersected area old.area).height = ap (λ q. q.height) is.value in
    let columns_ = is.columns in let rows = is.rows in
    record {
      nothing = λ none. absurd (omega arith);
      part = λ _ _. subst (λ q. f q old new) is.value done;
    }

-- it has the whole area
pub OnPart-whole : (f : Rect → BufferData → BufferData → Type 0) (area : Rect) (old new : BufferData) → OnPart f area old new
    → old.area ≡ area → EdgesFit area → 0 < area.width → 0 < area.height → f area old new
OnPart-whole f area old new is own edges wide high =
    let whole : intersected area old.area ≡ area = rw own (intersected-whole area edges) in
    subst (λ (q : Rect). 0 < q.width → 0 < q.height → f q old new) whole is.part wide high

-- a bar of n columns at the start of the part, and pieces for a line painted on it
module _ (area part : Rect) (n : ℕ) (style : Style) (line : LineData) (old under new : BufferData)
    (is : IsClipped area old.area part) (bar : IsStyled (bar_of n part) style old under) where
  abbrev own : Rect
  own = old.area

  abbrev ps : List Piece
  ps = line_pieces_at under.area part.x part.width line

  settled : PaintsPieces (corner part) ps under new → IsEmptied own old → IsSettledBuffer new
  settled painted emptied =
      let ends = line-ends under.area part.x part.width line in
      let x : under.area.x ≡ own.x = ap (λ q. q.x) bar.area in
      let w : under.area.width ≡ own.width = ap (λ q. q.width) bar.area in
      let around = part-around area own part is in let some = is.columns in
      IsSettledBuffer-painted (corner part) ps under new (omega (arith, around.left)) ends
      (IsSettledBuffer-styled own (bar_of n part) style old under is.edges emptied bar)
      (IsPaintable-styled own (bar_of n part) style old under is.edges emptied bar (corner part) (columns ps)
      (part-row area own part is) around.left (omega arith)) painted

  within : n ≤ part.width → IsSameBeside (corner part) ps under new → ChangesWithin area old new
  within narrow refused =
      let keeps = line-keeps under.area part.x part.width line in
      let here : IsClipped area under.area part = subst (λ q. IsClipped area q part) (sym bar.area) is in
      let around = part-around area under.area part here in
      within-then area old under new (within-styled area (bar_of n part) style old under
      (λ p in_own h. is.of_area p (omega arith)) bar)
      (within-beside area (corner part) ps under new (part-row area under.area part here) around.left
      (line-ends under.area part.x part.width line) (λ q in_own from to same. here.of_area q (omega arith)) refused)

  -- Ok, the line stands on the bar, and of an empty buffer came a settled one; refused, nothing outside the area changed
  pub line-on-bar : {A : Type 0} (r : Result A AllocError) → n ≤ part.width → Paints (corner part) ps r under new
      → OnOk r (PaintsOnBar (bar_of n part) style (corner part) (λ q. line_pieces_at q part.x part.width line) old new
      × (IsEmptied own old → IsSettledBuffer new)) × OnErr r (ChangesWithin area old new)
  line-on-bar (Ok x) narrow paints = ((record { under = under; laid = bar; painted = paints.ok }, settled paints.ok), tt)
  line-on-bar (Err e) narrow paints = (tt, within narrow (front-beside _ _ _ _ paints.front))
