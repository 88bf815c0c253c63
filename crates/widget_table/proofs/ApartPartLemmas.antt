-- Areas that stand apart: beside others, under a style, and some of their rows.
use Rattle.std.proofs.Common.{◌≡◌, ◌+◌, ◌-◌, ◌<◌, ◌≤◌, ◌⊎◌, ⊎_elim, inl, inr, false, sym, ap, subst, ◌∙◌, refl, arith}
use Rattle.std.proofs.lemmas.Bool.{cases_lt}
use Rattle.ratatui_core.specs.Layout.{Rect, Position, HasPosition, IsInside, EdgesFit, right_edge}
use Rattle.ratatui_core.specs.{Style.Style, Widgets.ChangesWithin}
use Rattle.ratatui_core.specs.Buffer.{BufferData, Cell, cell_in, position_of, styled, width_of, is_skipped, IsSettledBuffer, IsStyled}
use Rattle.ratatui_core.proofs.BufferLemmas.{has-or-not}
use Rattle.widget_boxes.specs.{Apart.StandsApart, Highlights.IsContinuation, Highlights.IsHighlighted}

-- ---- under a style

laid-width : (style : Style) (c : Cell) → width_of (styled style c) ≡ width_of c
unfolding width_of
laid-width style c = refl

laid-skipped : (style : Style) (c : Cell) → is_skipped (styled style c) ≡ is_skipped c
unfolding is_skipped
laid-skipped style c = refl

-- each cell has a style laid over it, or stays
record IsLaid (style : Style) (old new : BufferData) : Type 0 where
  area : new.area ≡ old.area
  at : (p : Position) → HasPosition old.area p
      → (cell_in new p ≡ styled style (cell_in old p)) ⊎ (cell_in new p ≡ cell_in old p)

module _ (style : Style) (old new : BufferData) (is : IsLaid style old new) where
  same-width : (p : Position) → HasPosition old.area p → width_of (cell_in new p) ≡ width_of (cell_in old p)
  same-width p in_own =
      ⊎_elim
      (λ (lit : cell_in new p ≡ styled style (cell_in old p)). ap width_of lit ∙ laid-width style (cell_in old p))
      (λ (same : cell_in new p ≡ cell_in old p). ap width_of same)
      (is.at p in_own)

  same-skipped : (p : Position) → HasPosition old.area p → is_skipped (cell_in new p) ≡ is_skipped (cell_in old p)
  same-skipped p in_own =
      ⊎_elim
      (λ (lit : cell_in new p ≡ styled style (cell_in old p)). ap is_skipped lit ∙ laid-skipped style (cell_in old p))
      (λ (same : cell_in new p ≡ cell_in old p). ap is_skipped same)
      (is.at p in_own)

  -- then an area stands apart as before, if the buffer is settled
  laid-apart : (q : Rect) → StandsApart q old → IsSettledBuffer new → StandsApart q new
  laid-apart q was settled = record {
    edges = rw is.area was.edges;
    settled = settled;
    unreached = λ p k has there before plain.
        let in_own : HasPosition old.area p = subst (λ a. HasPosition a p) is.area has in
        let w = same-width p in_own in
        let ends = was.unreached p k in_own there before (sym (same-skipped p in_own) ∙ plain) in omega arith;
    enclosed = λ p has here plain.
        let in_own : HasPosition old.area p = subst (λ a. HasPosition a p) is.area has in
        let w = same-width p in_own in
        let ends = was.enclosed p in_own here (sym (same-skipped p in_own) ∙ plain) in omega arith;
  }

pub styled-apart : (q r : Rect) (style : Style) (old new : BufferData) → IsStyled r style old new → StandsApart q old
    → IsSettledBuffer new → StandsApart q new
styled-apart q r style old new is =
    laid-apart style old new (record {
      area = is.area;
      at = λ p in_own.
          ⊎_elim
          (λ (here : HasPosition r p). inl (is.inside p in_own here))
          (λ (off : HasPosition r p → ⊥). inr (is.outside p in_own off))
          (has-or-not r p);
    }) q

pub highlighted-apart : (q r : Rect) (style : Style) (old new : BufferData) → IsHighlighted r style old new → StandsApart q old
    → IsSettledBuffer new → StandsApart q new
highlighted-apart q r style old new is =
    laid-apart style old new (record {
      area = is.area;
      at = λ p in_own.
          ⊎_elim
          (λ (here : HasPosition r p).
          ⊎_elim
          (λ (under : IsContinuation r old p × (cell_in new p ≡ cell_in old p)). inr under.1)
          (λ (free : (IsContinuation r old p → ⊥) × (cell_in new p ≡ styled style (cell_in old p))). inl free.1)
          (is.inside p in_own here))
          (λ (off : HasPosition r p → ⊥). inr (is.outside p in_own off))
          (has-or-not r p);
    }) q

-- ---- beside another one that was made

pub beside-apart : (r q : Rect) (old new : BufferData) → StandsApart r old → ChangesWithin q old new → StandsApart q new
    → ((p : Position) → HasPosition r p → HasPosition q p → ⊥) → StandsApart r new
beside-apart r q old new was within is apart = record {
  edges = is.edges;
  settled = is.settled;
  unreached = λ p k has there before plain.
      let in_own : HasPosition old.area p = subst (λ a. HasPosition a p) within.same_area has in
      let far = there.right in
      ⊎_elim
      (λ (here : HasPosition q p).
      let ends = is.enclosed p has here plain in
      let l = here.left in let t = here.top in let b = here.bottom in let start = there.left in
      ⊎_elim
      (λ (less : k < right_edge q). absurd (apart (position_of (k, p.y)) there (record {
        left = omega arith;
        right = less;
        top = t;
        bottom = b;
      })))
      (λ (ge : right_edge q ≤ k). omega arith)
      (cases_lt k (right_edge q)))
      (λ (off : HasPosition q p → ⊥).
      let same = within.outside p in_own off in
      let w : width_of (cell_in new p) ≡ width_of (cell_in old p) = ap width_of same in
      let ends = was.unreached p k in_own there before (sym (ap is_skipped same) ∙ plain) in omega arith)
      (has-or-not q p);
  enclosed = λ p has here plain.
      let in_own : HasPosition old.area p = subst (λ a. HasPosition a p) within.same_area has in
      let same = within.outside p in_own (λ there. apart p here there) in
      let w : width_of (cell_in new p) ≡ width_of (cell_in old p) = ap width_of same in
      let ends = was.enclosed p in_own here (sym (ap is_skipped same) ∙ plain) in omega arith;
}

-- ---- some of its rows

-- a part has all columns of an area
pub record HasColumns (r q : Rect) : Type 0 where
  pub inside : IsInside q r
  pub left : (p : Position) → HasPosition q p → q.x ≤ r.x
  pub right : (p : Position) → HasPosition q p → right_edge r ≤ q.x + q.width

-- a symbol of a settled buffer ends in it
own-end : (s : BufferData) → EdgesFit s.area → IsSettledBuffer s → (p : Position) → HasPosition s.area p
    → is_skipped (cell_in s p) ≡ false → p.x + width_of (cell_in s p) ≤ s.area.x + s.area.width
own-end s edges is p has plain =
    let l = has.left in let r = has.right in let t = has.top in let b = has.bottom in
    let e = edges.right in let d = edges.bottom in
    let a = p.x - s.area.x in let row = p.y - s.area.y in
    let ends = is.within a row (omega arith) (omega arith) plain in omega arith

pub rows-apart : (r q : Rect) (s : BufferData) → HasColumns r q → StandsApart r s → StandsApart q s
rows-apart r q s columns is = record {
  edges = is.edges;
  settled = is.settled;
  unreached = λ p k has there before plain.
      let l = columns.left (position_of (k, p.y)) there in
      is.unreached p k has (columns.inside (position_of (k, p.y)) there) (omega arith) plain;
  enclosed = λ p has here plain.
      let e = columns.right p here in let ends = is.enclosed p has (columns.inside p here) plain in
      let own = own-end s is.edges is.settled p has plain in let fit = is.edges.right in omega arith;
}
