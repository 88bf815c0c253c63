-- A style and a box over a part of a buffer, and what is inside.
use Rattle.std.proofs.Common.{◌≡◌, ℕ, ◌+◌, ◌-◌, ◌<◌, ◌≤◌, ⊎_elim, inl, inr, Bool, true, false, min, Option, Some, None, refl, sym}
use Rattle.std.proofs.Common.{ap, subst, ◌∙◌, arith, Result, Ok, Err, OnOk, IfSome, IsTrue, ◌↔◌}
use Rattle.std.proofs.lemmas.Bool.{cases_lt}
use Rattle.std.specs.declared.alloc.AllocError.{AllocError}
use Rattle.ratatui_core.specs.Layout.{Rect, HasPosition, IsInside, intersected}
use Rattle.ratatui_core.specs.{Style.Style, Buffer.BufferData, Buffer.IsStyled, Widgets.ChangesWithin}
use Rattle.ratatui_core.proofs.{BufferLemmas.within-wider, WidgetLemmas.within-then, WidgetLemmas.OnPart-clipped}
use Rattle.widget_boxes.specs.declared.block.Block.{Block}
use Rattle.widget_boxes.specs.Boxes.{IsBoxArea, IsShortBlock, inner_of}
use Rattle.widget_boxes.specs.Framed.{inner_if, IsBare, IsInner, FramesAlone, FramesInside, InFrame, RendersStateInFrame}
use Rattle.widget_boxes.specs.Framed.{IsShortBox, IsShortFrame}
use Rattle.widget_boxes.proofs.ShortLemmas.{short-box}
use Rattle.ratatui_core.proofs.BufferLemmas.{decide_position}

pub if-short : (o : Option Block) (b : Block) (area : Rect) (s : BufferData) → o ≡ Some b → IsShortFrame o s
    → IsShortBlock b area s
if-short o b area s e short =
    let box : IsShortBox b = subst (λ o. IfSome o IsShortBox) e short.box in
    short-box b area s box.titles box.symbols short.cells

-- a style changes no symbol
pub short-laid : (o : Option Block) (r : Rect) (style : Style) (old laid : BufferData) → IsStyled r style old laid
    → IsShortFrame o old → IsShortFrame o laid
short-laid o r style old laid is short = record {
  box = short.box;
  cells = λ p in_laid.
      let in_own : HasPosition old.area p = subst (λ a. HasPosition a p) is.area in_laid in
      elim (decide_position r p) [
        | inl (has, e) ↦ rw (is.inside p in_own has) (short.cells p in_own)
        | inr (off, e) ↦ rw (is.outside p in_own off) (short.cells p in_own)
      ];
}

-- a rectangle with cells isn't bare
not-bare : {P : Type 0} (r : Rect) → 0 < r.width → 0 < r.height → IsBare r → P
not-bare r wide high bare =
    ⊎_elim (λ (e : r.width ≡ 0). absurd (omega arith)) (λ (e : r.height ≡ 0). absurd (omega arith)) bare

-- what is left of a span between two sides and two paddings
starts-in : (x w l r a b : ℕ) → x + w ≤ 65535 → 0 < w - l - r - min (a + b) 65535
    → x ≤ min (min (min (x + l) 65535) (min (x + w) 65535) + a) 65535
starts-in x w l r a b fits some = omega arith

ends-in : (x w l r a b : ℕ) → x + w ≤ 65535 → 0 < w - l - r - min (a + b) 65535
    → min (min (min (x + l) 65535) (min (x + w) 65535) + a) 65535 + (w - l - r - min (a + b) 65535) ≤ x + w
ends-in x w l r a b fits some = omega arith

-- what is inside a part lies in it
module _ (part r : Rect) (is : IsBoxArea part) (left : part.x ≤ r.x) (right : r.x + r.width ≤ part.x + part.width)
    (top : part.y ≤ r.y) (bottom : r.y + r.height ≤ part.y + part.height) where
  pub lies-in : IsInside r part
  lies-in p h =
      let a = is.across in let d = is.down in let l = h.left in let e = h.right in let t = h.top in let b = h.bottom in
      record { left = omega arith; right = omega arith; top = omega arith; bottom = omega arith }

  pub box-in : 0 < r.width → 0 < r.height → IsBoxArea r
  box-in wide high = let a = is.across in let d = is.down in record {
    columns = wide;
    rows = high;
    across = omega arith;
    down = omega arith;
  }

pub inner-in : (o : Option Block) (part : Rect) → IsBoxArea part → 0 < (inner_if o part).width → 0 < (inner_if o part).height
    → IsInner o part (inner_if o part)
inner-in None part is wide high = record { value = refl; some = is; inside = λ p h. h }
inner-in (Some b) part is wide high =
    let a = is.across in let d = is.down in
    let left = starts-in part.x part.width _ _ b.padding.left b.padding.right a wide in
    let right = ends-in part.x part.width _ _ b.padding.left b.padding.right a wide in
    let top = starts-in part.y part.height _ _ b.padding.top b.padding.bottom d high in
    let bottom = ends-in part.y part.height _ _ b.padding.top b.padding.bottom d high in
    record {
      value = refl;
      some = box-in part (inner_of b part) is left right top bottom wide high;
      inside = lies-in part (inner_of b part) is left right top bottom;
    }

-- nothing is left to fill
pub frame-alone : {S : Type 0} (style : Style) (o : Option Block) (f : S → S → Rect → BufferData → BufferData → Type 0) (s : S)
    (area : Rect) (old framed : BufferData) → ChangesWithin area old framed → FramesAlone style o area old framed
    → RendersStateInFrame style o f s s area old framed
frame-alone style o f s area old framed within is = record {
  within = within;
  no_part = λ _. refl;
  parts = record {
    nothing = is.nothing;
    part = λ wide high. let there = is.part wide high in record {
      framed = framed;
      frame = there.0;
      none = λ _. (refl, refl);
      inside = λ columns rows. not-bare (inner_if o (intersected area old.area)) columns rows there.1;
    };
  };
}

-- something is inside, and f does it
module _ (style : Style) (o : Option Block) (area inner : Rect) (old framed new : BufferData)
    (is : FramesInside style o area old framed inner) where
  -- the buffer still has what is inside
  pub frame-own : IsInside inner framed.area
  frame-own p h = rw is.within.same_area (is.clip.of_own p (is.inside.inside p h))

  pub frame-inner : inner ≡ inner_if o (intersected area old.area)
  frame-inner = is.inside.value ∙ ap (inner_if o) is.clip.value

  pub frame-within : ChangesWithin inner framed new → ChangesWithin area old new
  frame-within done = within-wider is.part area old new is.clip.of_area (within-then is.part old framed new is.within
      (within-wider inner is.part framed new is.inside.inside done))

  pub frame-filled : {A S : Type 0} (f : S → S → Rect → BufferData → BufferData → Type 0) (s t : S) (r : Result A AllocError)
      → ChangesWithin inner framed new → OnOk r (f s t inner framed new) → OnOk r (RendersStateInFrame style o f s t area old new)
  frame-filled f s t (Ok x) done made =
      let clip = is.clip in let some = is.inside.some in
      record {
        within = frame-within done;
        no_part = λ bare. not-bare (intersected area old.area) (subst (λ q. 0 < q.width) clip.value clip.columns)
            (subst (λ q. 0 < q.height) clip.value clip.rows) bare;
        parts = OnPart-clipped (InFrame style o f s t) area is.part old new clip (record {
          framed = framed;
          frame = is.framed;
          none = λ bare. not-bare (inner_if o is.part) (subst (λ q. 0 < q.width) is.inside.value some.columns)
              (subst (λ q. 0 < q.height) is.inside.value some.rows) bare;
          inside = λ _ _. subst (λ q. f s t q framed new) is.inside.value made;
        });
      }
  frame-filled f s t (Err e) done made = tt

-- what is inside has cells if a test says so
pub inner-test : (o : Option Block) (part r : Rect) (t : Bool) → r ≡ inner_if o part → IsBoxArea part → IsTrue t ↔ IsBare r
    → t ≡ false → IsInner o part r
inner-test o part r t e is test off =
    let some : IsBare r → ⊥ = λ bare. let no : true ≡ false = sym (test.1 bare) ∙ off in absurd (cc) in
    let wide : 0 < r.width = ⊎_elim (λ (lt : 0 < r.width). lt) (λ (le : r.width ≤ 0). absurd (some (inl (omega arith))))
    (cases_lt 0 r.width) in
    let high : 0 < r.height = ⊎_elim (λ (lt : 0 < r.height). lt) (λ (le : r.height ≤ 0). absurd (some (inr (omega arith))))
    (cases_lt 0 r.height) in
    rw e (inner-in o part is (subst (λ q. 0 < q.width) e wide) (subst (λ q. 0 < q.height) e high))
