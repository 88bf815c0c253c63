-- What a style and a box leave of plain cells, and where what is inside lies.
use Rattle.std.proofs.Common.{◌≡◌, ◌<◌, ◌≤◌, ⊎_elim, inl, inr, Option, Some, None, refl, ap, ◌∙◌, arith, IfSome}
use Rattle.std.proofs.lemmas.Bool.{cases_lt}
use Rattle.ratatui_core.specs.Layout.{Rect, EdgesFit, IsInside, intersected}
use Rattle.ratatui_core.specs.{Style.Style, Buffer.BufferData, Buffer.IsPlainFrom, Buffer.IsSettledBuffer, Widgets.IsClipped}
use Rattle.ratatui_core.proofs.BufferLemmas.{settled-plain}
use Rattle.widget_boxes.specs.{declared.block.Block.Block, Boxes.IsBoxArea, Boxes.IsNarrowBox}
use Rattle.widget_boxes.specs.Framed.{inner_if, RendersIfBox, IsFramed, IsBare, RendersStateInFrame}
use Rattle.widget_boxes.specs.Framed.{RendersInFrame}
use Rattle.widget_boxes.proofs.{BoxLemmas.box-area, FrameLemmas.inner-in, PlainBoxLemmas.plain-laid, PlainBoxLemmas.plain-box}

plain-boxed : (o : Option Block) (r : Rect) (old new : BufferData) → IfSome o IsNarrowBox → IsPlainFrom 0 old
    → RendersIfBox o r old new → IsPlainFrom 0 new
plain-boxed None r old new is plain same = rw same plain
plain-boxed (Some b) r old new is plain renders = plain-box b r old new is plain renders

pub plain-framed : (style : Style) (o : Option Block) (r : Rect) (old new : BufferData) → IfSome o IsNarrowBox → IsPlainFrom 0 old
    → IsFramed style o r old new → IsPlainFrom 0 new
plain-framed style o r old new is plain frame =
    plain-boxed o r frame.laid new is (plain-laid r style old frame.laid frame.styled plain) frame.boxed

boxed-area : (o : Option Block) (r : Rect) (old new : BufferData) → RendersIfBox o r old new → new.area ≡ old.area
boxed-area None r old new same = ap (λ s. s.area) same
boxed-area (Some b) r old new renders = renders.same_area

pub framed-area : (style : Style) (o : Option Block) (r : Rect) (old new : BufferData) → IsFramed style o r old new
    → new.area ≡ old.area
framed-area style o r old new frame = boxed-area o r frame.laid new frame.boxed ∙ frame.styled.area

-- the part of an area that a buffer has, if it has one
pub clipped : (area own : Rect) → EdgesFit own → 0 < (intersected area own).width → 0 < (intersected area own).height
    → IsClipped area own (intersected area own)
clipped area own edges wide high = record {
  value = refl;
  columns = wide;
  rows = high;
  of_area = λ p h. let l = h.left in let e = h.right in let t = h.top in let b = h.bottom in
      record { left = omega arith; right = omega arith; top = omega arith; bottom = omega arith };
  of_own = λ p h. let l = h.left in let e = h.right in let t = h.top in let b = h.bottom in
      record { left = omega arith; right = omega arith; top = omega arith; bottom = omega arith };
  edges = edges;
}

-- a rectangle is bare, or has cells
pub bare-or : {P : Type 0} (r : Rect) → (IsBare r → P) → (0 < r.width → 0 < r.height → P) → P
bare-or r bare some =
    ⊎_elim
    (λ (w : 0 < r.width).
    ⊎_elim (λ (h : 0 < r.height). some w h) (λ (le : r.height ≤ 0). bare (inr (omega arith))) (cases_lt 0 r.height))
    (λ (le : r.width ≤ 0). bare (inl (omega arith)))
    (cases_lt 0 r.width)

-- of plain cells come plain ones, if what is done inside leaves such
pub plain-inside : {S : Type 0} (style : Style) (o : Option Block) (f : S → S → Rect → BufferData → BufferData → Type 0)
    (s t : S) (area : Rect) (old new : BufferData) → IfSome o IsNarrowBox → IsPlainFrom 0 old
    → ((framed : BufferData) → IsPlainFrom 0 framed → f s t (inner_if o (intersected area old.area)) framed new
    → IsPlainFrom 0 new) → RendersStateInFrame style o f s t area old new → IsPlainFrom 0 new
plain-inside style o f s t area old new box plain keeps is =
    let part = intersected area old.area in
    bare-or part (λ none. rw (is.parts.nothing none) plain) (λ wide high.
    let there = is.parts.part wide high in
    let framed = plain-framed style o part old there.framed box plain there.frame in
    bare-or (inner_if o part) (λ none. rw (there.none none).0 framed) (λ w h. keeps there.framed framed (there.inside w h)))

-- of plain cells comes a settled buffer, if what is done inside leaves one
pub settled-frame : (style : Style) (o : Option Block) (f : Rect → BufferData → BufferData → Type 0) (area : Rect)
    (old new : BufferData) → EdgesFit old.area → IsPlainFrom 0 old → IfSome o IsNarrowBox
    → ((r : Rect) (s t : BufferData) → IsBoxArea r → IsInside r s.area → EdgesFit s.area → IsPlainFrom 0 s → f r s t
    → IsSettledBuffer t) → RendersInFrame style o f area old new → IsSettledBuffer new
settled-frame style o f area old new edges plain box keeps is =
    let part = intersected area old.area in
    bare-or part (λ none. rw (is.parts.nothing none) (settled-plain old edges plain)) (λ wide high.
    let clip = clipped area old.area edges wide high in
    let there = is.parts.part wide high in
    let framed = there.framed in
    let same = framed-area style o part old framed there.frame in
    let plain_ = plain-framed style o part old framed box plain there.frame in
    let edges_ : EdgesFit framed.area = rw same edges in
    bare-or (inner_if o part) (λ none. rw (there.none none).0 (settled-plain framed edges_ plain_)) (λ w h.
    let inner = inner-in o part (box-area area old.area part clip) w h in
    keeps (inner_if o part) framed new inner.some (λ p in_inner. rw same (clip.of_own p (inner.inside p in_inner))) edges_ plain_
    (there.inside w h)))
