-- What a window shows of a content.
use Rattle.std.proofs.Common.{◌≡◌, ◌+◌, ◌-◌, ◌≤◌, true, nat_lt, refl, sym, ap, subst, ◌∙◌}
use Rattle.std.proofs.Common.{arith, Result, Ok, Err, OnOk}
use Rattle.ratatui_core.specs.Layout.{Rect, Position, HasPosition, EdgesFit}
use Rattle.ratatui_core.specs.Buffer.{BufferData, Cell, cell_in, width_of, ChangesEach, AreLight, IsShort, symbol_text}
use Rattle.ratatui_core.proofs.BufferLemmas.{position-true, position-false}
use Rattle.widget_scroll_view.specs.declared.window.Window.{Window}
use Rattle.widget_scroll_view.specs.Places.{content_position, shown_area}
use Rattle.widget_scroll_view.specs.ScrollViews.{shown_cell, styled_blank, HasShortCells, ShowsContent}
use Rattle.widget_scroll_view.specs.Inner.{IsSource, window_cell, IsLightWindow}

module _ (content : BufferData) (offset : Position) (area : Rect) (p q : Position) (is : IsSource content offset area p q) where
  source-is : HasPosition content.area q → q ≡ content_position content offset area p
  source-is has =
      let r = has.right in let b = has.bottom in let ex = is.x in let ey = is.y in
      let x : q.x ≡ content.area.x + offset.x + (p.x - area.x) = omega arith in
      let y : q.y ≡ content.area.y + offset.y + (p.y - area.y) = omega arith in
      λ i. record { x = x i; y = y i }

pub window-some : (w : Window) (p q : Position) (c : Cell) → IsSource w.content.now w.offset w.area p q
    → HasPosition w.content.now.area q → window_cell w p c ≡ shown_cell w.content.now w.offset w.area p
window-some w p q c is has =
    let e = source-is w.content.now w.offset w.area p q is has in
    let there = position-true w.content.now.area (content_position w.content.now w.offset w.area p)
    (subst (HasPosition w.content.now.area) e has) in
    rw there refl

pub source-cell : (w : Window) (p q : Position) → IsSource w.content.now w.offset w.area p q → HasPosition w.content.now.area q
    → cell_in w.content.now q ≡ cell_in w.content.now (content_position w.content.now w.offset w.area p)
source-cell w p q is has = ap (cell_in w.content.now) (source-is w.content.now w.offset w.area p q is has)

-- what is cut is a blank
pub cut-blank : (w : Window) (p q : Position) (c : Cell) → IsSource w.content.now w.offset w.area p q
    → HasPosition w.content.now.area q
    → nat_lt (w.area.x + w.area.width) (p.x + width_of (cell_in w.content.now q)) ≡ true
    → styled_blank (cell_in w.content.now q) ≡ window_cell w p c
cut-blank w p q c is has cut =
    let e = source-cell w p q is has in
    let cut' : nat_lt (w.area.x + w.area.width) (p.x + width_of (cell_in w.content.now (content_position w.content.now w.offset w.area p)))
    ≡ true = rw e at cut in
    ap styled_blank e ∙ sym (window-some w p q c is has ∙ rw cut' refl)

-- each position of a part that isn't larger than the rest of the content shows one of the content's
module _ (content : BufferData) (offset : Position) (view : Rect) (edges : EdgesFit content.area)
    (across : offset.x + (shown_area content view).width ≤ content.area.width)
    (down : offset.y + (shown_area content view).height ≤ content.area.height) where
  pub in-content : (p : Position) → HasPosition (shown_area content view) p
      → HasPosition content.area (content_position content offset (shown_area content view) p)
  in-content p has =
      let right = edges.right in let bottom = edges.bottom in
      let l = has.left in let r = has.right in let t = has.top in let b = has.bottom in
      record { left = omega arith; right = omega arith; top = omega arith; bottom = omega arith }

  window-shows : (w : Window) → w.content.now ≡ content → w.offset ≡ offset → w.area ≡ shown_area content view
      → (p : Position) (c : Cell)
      → HasPosition (shown_area content view) p → window_cell w p c ≡ shown_cell content offset (shown_area content view) p
  window-shows w e1 e2 e3 p c has =
      let there = position-true content.area (content_position content offset (shown_area content view) p) (in-content p has) in
      rw (e1, e2, e3, there) refl

  pub shows-ok : {A E : Type 0} (r : Result A E) (w : Window) (old new : BufferData) → w.content.now ≡ content → w.offset ≡ offset
      → w.area ≡ shown_area content view → OnOk r (ChangesEach w.area (window_cell w) old new)
      → OnOk r (ShowsContent content offset (shown_area content view) old new)
  shows-ok (Ok x) w old new e1 e2 e3 is = record {
    area = is.area;
    room = is.room;
    inside = λ p own here. is.inside p own (subst (λ a. HasPosition a p) (sym e3) here) ∙ window-shows w e1 e2 e3 p (cell_in old p) here;
    outside = λ p own off. is.outside p own (λ here. off (subst (λ a. HasPosition a p) e3 here));
  }
  shows-ok (Err e) w old new e1 e2 e3 is = tt

  pub light-window : (w : Window) (old : BufferData) → w.content.now ≡ content → w.offset ≡ offset
      → w.area ≡ shown_area content view
      → HasShortCells content offset view old → AreLight (IsLightWindow w) w.area old
  light-window w old e1 e2 e3 short = λ p own here.
      let there : HasPosition (shown_area content view) p = subst (λ a. HasPosition a p) e3 here in
      subst (λ (c : Cell). IsShort (symbol_text c.symbol)) (sym (window-shows w e1 e2 e3 p (cell_in old p) there)) (short p own there)
