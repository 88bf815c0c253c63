-- A popup over what is emptied.
use Rattle.std.proofs.Common.{inl, inr, refl, sym, subst, arith, Option, Result, Ok, Err, OnOk, OnErr}
use Rattle.std.specs.declared.alloc.AllocError.{AllocError}
use Rattle.ratatui_core.specs.Layout.{Rect, HasPosition, intersected}
use Rattle.ratatui_core.specs.{Buffer.BufferData, Buffer.IsPlain, Buffer.IsPlainFrom, Buffer.empty_cell, Widgets.ChangesWithin}
use Rattle.ratatui_core.proofs.BufferLemmas.{Changes-within, decide_position, plain-changed, width-empty}
use Rattle.ratatui_core.proofs.WidgetLemmas.{within-then}
use Rattle.widget_boxes.specs.{declared.block.Block.Block, Clears.RendersClear, Framed.inner_if}
use Rattle.rtui_drawing.specs.Drawings.{Drawing, IsShortDrawing}
use Rattle.rtui_inside.specs.Inside.{IsShortInside}
use Rattle.rtui_inside.proofs.InsideLemmas.{inside-plain}
use Rattle.widget_popup.specs.declared.popup.Popup.{Popup}
use Rattle.widget_popup.specs.Places.{popup_area}
use Rattle.widget_popup.specs.Popups.{ClearsFirst, IsNarrowPopup, RendersPopup, popup_drawing}

module _ {A : Type 0} (area : Rect) (old mid new : BufferData) (clear : RendersClear area old mid) where
  pub then-ok : (f : Rect → BufferData → BufferData → Type 0) (r : Result A AllocError) → OnOk r (f area mid new)
      → OnOk r (ClearsFirst f area old new)
  then-ok f (Ok x) rest = record { cleared = mid; clear = clear; rest = rest }
  then-ok f (Err e) rest = tt

  pub then-left : (f : Rect → BufferData → BufferData → Type 0) (r : Result A AllocError) → OnErr r (f area mid new)
      → OnErr r (ClearsFirst f area old new)
  then-left f (Ok x) rest = tt
  then-left f (Err e) rest = record { cleared = mid; clear = clear; rest = rest }

  pub then-within : (r : Result A AllocError) → OnErr r (ChangesWithin area mid new) → OnErr r (ChangesWithin area old new)
  then-within (Ok x) rest = tt
  then-within (Err e) rest = within-then area old mid new (Changes-within area area _ old mid (λ p h. h) clear) rest

-- what is short stays so where cells are emptied
pub short-cleared : (o : Option Block) (d : Rect → Drawing) (area : Rect) (old mid : BufferData) → RendersClear area old mid
    → IsShortInside o d area old → IsShortInside o d area mid
short-cleared o d area old mid is short = record {
  frame = record {
    box = short.frame.box;
    cells = λ p in_mid.
        let in_own : HasPosition old.area p = subst (λ a. HasPosition a p) is.area in_mid in
        elim (decide_position area p) [
          | inl (has, e) ↦ rw (is.inside p in_own has) (omega arith)
          | inr (off, e) ↦ rw (is.outside p in_own off) (short.frame.cells p in_own)
        ];
  };
  inside = subst (λ a. let r = inner_if o (intersected area a) in IsShortDrawing a (d r) r) (sym is.area) short.inside;
}

-- an empty cell is plain, and so a popup of narrow texts keeps cells plain
plain-empty : IsPlain empty_cell
plain-empty = let one = width-empty in record {
  narrow = omega arith;
  unmarked = record { option = refl; flag = refl };
}

pub popup-plain : (p : Popup) (area : Rect) (old new : BufferData) → IsNarrowPopup p → IsPlainFrom 0 old
    → RendersPopup p area old new → IsPlainFrom 0 new
popup-plain p area old new narrow plain is =
    let emptied = plain-changed (popup_area p area) (λ _ _. empty_cell) old is.cleared (λ q c was. plain-empty) is.clear plain in
    inside-plain p.style p.block (popup_area p area) is.cleared new narrow.box emptied (popup_drawing p) narrow.text is.rest
