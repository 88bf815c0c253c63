-- What is drawn inside a frame: the clauses of a widget that draws it there.
use Rattle.std.proofs.Common.{◌≡◌, ℕ, ◌+◌, ◌-◌, ◌<◌, ◌≤◌, min, ◌∙◌, Option, Some, None, IfSome, arith}
use Rattle.std.proofs.Common.{Result, Ok, Err, OnOk, OnErr, IsOk}
use Rattle.std.specs.declared.alloc.AllocError.{AllocError}
use Rattle.ratatui_core.specs.{Layout.Rect, Layout.IsInside, Layout.intersected, Style.Style, Buffer.BufferData}
use Rattle.ratatui_core.specs.{Buffer.IsPlainFrom, Widgets.ChangesWithin}
use Rattle.ratatui_core.proofs.WidgetLemmas.{holds_anyway}
use Rattle.rtui_drawing.specs.Cuts.{cut_from}
use Rattle.rtui_drawing.specs.declared.cut.Cut.TheVariants.{Rows}
use Rattle.rtui_drawing.specs.Drawings.{Drawing, DrawsAll, IsDone, IsStopped, IsRowIn, IsPartOf}
use Rattle.rtui_drawing.proofs.Laws.{IsNarrowDrawing}
use Rattle.rtui_drawing.proofs.DrawingLemmas.{done-within, done-short, draws-plain}
use Rattle.widget_boxes.specs.declared.block.Block.{Block}
use Rattle.widget_boxes.specs.{Boxes.IsBoxArea, Boxes.IsNarrowBox, Framed.FramesInside, Framed.inner_if}
use Rattle.widget_boxes.proofs.FrameLemmas.{frame-filled, frame-within, frame-inner}
use Rattle.widget_boxes.proofs.{InnerLemmas.plain-inside, PaintLemmas.part-has_row, PaintLemmas.part-starts, PaintLemmas.part-right}
use Rattle.rtui_inside.specs.Inside.{DrawsInside, LeavesInside, IsShortInside, DrawsState, DrawsStateInside}

module _ {A : Type 0} (style : Style) (o : Option Block) (area inner : Rect) (old framed new : BufferData)
    (is : FramesInside style o area old framed inner) (d : Rect → Drawing) (result : Result A AllocError)
    (done : IsDone (d inner) inner result framed new) where
  within : ChangesWithin inner framed new
  within = done-within result done

  pub filled-area : new.area ≡ old.area
  filled-area = within.same_area ∙ is.within.same_area

  pub filled-ok : OnOk result (DrawsInside style o d area old new)
  filled-ok = frame-filled style o area inner old framed new is (λ _ _ r. DrawsAll (d r) r) tt tt result within done.ok

  pub filled-err : OnErr result (ChangesWithin area old new)
  filled-err = holds_anyway result (frame-within style o area inner old framed new is within)

  pub filled-short : IsShortInside o d area old → IsOk result
  filled-short short =
      let at = frame-inner style o area inner old framed new is in
      done-short result (rw (at, is.within.same_area) short.inside) done

-- the same of a refusal
pub filled-left : {A : Type 0} (style : Style) (o : Option Block) (area inner : Rect) (old framed new : BufferData)
    → FramesInside style o area old framed inner → (d : Rect → Drawing) (result : Result A AllocError)
    → IsDone (d inner) inner result framed new → OnErr result (LeavesInside style o d area old new)
filled-left style o area inner old framed new is d (Ok x) done = tt
filled-left style o area inner old framed new is d (Err e) done = λ _.
    frame-filled style o area inner old framed new is (λ _ _ r. IsStopped (d r) r) tt tt (Ok e)
    (done-within (Err e) done) done.err

-- the same of a state
pub filled-state : {A S : Type 0} (style : Style) (o : Option Block) (area inner : Rect) (old framed new : BufferData)
    → FramesInside style o area old framed inner → (d : S → Rect → Drawing) (next : S → Rect → S) (s t : S)
    (result : Result A AllocError) → IsDone (d s inner) inner result framed new → OnOk result (t ≡ next s inner)
    → OnOk result (DrawsStateInside style o d next s t area old new)
filled-state style o area inner old framed new is d next s t (Ok x) done state =
    frame-filled style o area inner old framed new is (DrawsState d next) s t (Ok x)
    (done-within (Ok x) done) (record { drawn = done.ok; state = state })
filled-state style o area inner old framed new is d next s t (Err e) done state = tt

-- what a style and a box leave, and narrow things drawn inside, keep cells plain
module _ (style : Style) (o : Option Block) (area : Rect) (old new : BufferData) (box : IfSome o IsNarrowBox)
    (plain : IsPlainFrom 0 old) where
  pub inside-plain : (d : Rect → Drawing) → IsNarrowDrawing (d (inner_if o (intersected area old.area)))
      → DrawsInside style o d area old new → IsPlainFrom 0 new
  inside-plain d narrow is =
      let r = inner_if o (intersected area old.area) in
      plain-inside style o (λ _ _ r. DrawsAll (d r) r) tt tt area old new box plain (λ framed cells drawn.
      draws-plain (d r) r framed new narrow cells drawn) is

  pub state-plain : {S : Type 0} (d : S → Rect → Drawing) (next : S → Rect → S) (s t : S)
      → IsNarrowDrawing (d s (inner_if o (intersected area old.area))) → DrawsStateInside style o d next s t area old new
      → IsPlainFrom 0 new
  state-plain d next s t narrow is =
      let r = inner_if o (intersected area old.area) in
      plain-inside style o (DrawsState d next) s t area old new box plain (λ framed cells shown.
      draws-plain (d s r) r framed new narrow cells shown.drawn) is

-- what is inside has at most 65535 columns
pub inner-columns : (o : Option Block) (area own : Rect) → (inner_if o (intersected area own)).width ≤ 65535
inner-columns None area own = omega arith
inner-columns (Some b) area own = omega arith

-- an area with cells that a buffer has is a part of it
pub box-part : {own r : Rect} → IsBoxArea r → IsInside r own → IsPartOf own r
box-part box inside = record { inside = inside; edges = λ w h. record { right = box.across; bottom = box.down } }

-- a row of an area that a buffer has is one of the buffer's
pub row-inside : (own r row : Rect) (k : ℕ) → IsBoxArea r → IsInside r own → k < r.height → row ≡ cut_from (Rows k 1) r
    → IsRowIn own row
row-inside own r row k box inside lt at =
    let down = box.down in
    let y : min (r.y + k) 65535 ≡ r.y + k = omega arith in
    let h : min 1 (r.height - k) ≡ 1 = omega arith in
    rw (at, y, h) (record {
      there = part-has_row r own (r.y + k) box inside (omega arith) (omega arith);
      left = part-starts r own r.x box inside (omega arith);
      right = part-right r own r.x r.width box inside (omega arith);
      edge = box.across;
      down = omega arith;
      high = omega arith;
    })
