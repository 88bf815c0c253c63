-- Bars and a content, one after the other.
use Rattle.std.proofs.Common.{◌≡◌, ◌⊎◌, ⊎_elim, ◌+◌, ◌<◌, ◌≤◌, Bool, true, false, refl, sym, ap, subst, ◌∙◌, arith}
use Rattle.ratatui_core.specs.Layout.{Rect, Position, HasPosition, IsInside, intersected}
use Rattle.ratatui_core.specs.Buffer.{BufferData, cell_in}
use Rattle.ratatui_core.specs.Widgets.{ChangesWithin, IsClipped}
use Rattle.ratatui_core.proofs.BufferLemmas.{Changes-within, within-wider}
use Rattle.ratatui_core.proofs.WidgetLemmas.{within-then, OnPart-clipped, OnPart-none}
use Rattle.widget_boxes.specs.{Boxes.IsBoxArea, Titles.DoesIf}
use Rattle.widget_boxes.proofs.{BoxLemmas.box-area, InnerLemmas.bare-or}
use Rattle.widget_scrollbar.specs.declared.scrollbar.state.ScrollbarState.{ScrollbarState}
use Rattle.widget_scrollbar.specs.declared.scrollbar.ScrollbarOrientation.{ScrollbarOrientation}
use Rattle.widget_scroll_view.specs.declared.scroll_view.ScrollView.{ScrollView}
use Rattle.widget_scroll_view.specs.declared.state.ScrollViewState.{ScrollViewState}
use Rattle.widget_scroll_view.specs.Places.{has_vertical, has_horizontal, view_area, vertical_bar, horizontal_bar}
use Rattle.widget_scroll_view.specs.Places.{shown_offset, shown_area}
use Rattle.widget_scroll_view.specs.ScrollViews.{PaintsBar, PaintsBars, ShowsContent, ShowsScrollView, RendersScrollView}
use Rattle.widget_scroll_view.specs.ScrollViews.{shown_cell, state_after, rendered_state}
use Rattle.widget_scroll_view.proofs.PlaceLemmas.{view-inside, shown-inside, stand-apart}

-- nothing changed
same-within : (area : Rect) (old new : BufferData) → new ≡ old → ChangesWithin area old new
same-within area old new e = record {
  same_area = ap (λ s. s.area) e;
  same_room = ap (λ s. s.room) e;
  outside = λ p own off. ap (λ s. cell_in s p) e;
}

-- a bar that stands, or none
bar-if-within : (t : Bool) (o : ScrollbarOrientation) (s : ScrollbarState) (bar area : Rect) (old new : BufferData)
    → (t ≡ true → IsInside bar area) → DoesIf t (PaintsBar o s bar) old new → ChangesWithin area old new
bar-if-within true o s bar area old new inside is = within-wider bar area old new (inside refl) is.painted.within
bar-if-within false o s bar area old new inside is = same-within area old new is

bar-if-stays : (t : Bool) (o : ScrollbarOrientation) (s : ScrollbarState) (bar : Rect) (old new : BufferData) (p : Position)
    → HasPosition old.area p → (t ≡ true → ¬ (HasPosition bar p)) → DoesIf t (PaintsBar o s bar) old new → cell_in new p ≡ cell_in old p
bar-if-stays true o s bar old new p own off is = is.painted.within.outside p own (off refl)
bar-if-stays false o s bar old new p own off is = ap (λ s. cell_in s p) is

module _ (v : ScrollView) (offset : Position) (r : Rect) (old mid : BufferData) (box : IsBoxArea r) (is : PaintsBars v offset r old mid) where
  pub bars-within : ChangesWithin r old mid
  bars-within =
      let apart = stand-apart v r box in
      within-then r old is.between mid
      (bar-if-within (has_vertical v r) _ _ (vertical_bar r (view_area v r)) r old is.between apart.vertical is.first)
      (bar-if-within (has_horizontal v r) _ _ (horizontal_bar r (view_area v r)) r is.between mid apart.horizontal is.second)

  bars-stay : (p : Position) → HasPosition old.area p
      → (has_vertical v r ≡ true → ¬ (HasPosition (vertical_bar r (view_area v r)) p))
      → (has_horizontal v r ≡ true → ¬ (HasPosition (horizontal_bar r (view_area v r)) p)) → cell_in mid p ≡ cell_in old p
  bars-stay p own off_right off_below =
      let apart = stand-apart v r box in
      let first = bar-if-within (has_vertical v r) _ _ (vertical_bar r (view_area v r)) r old is.between apart.vertical is.first in
      bar-if-stays (has_horizontal v r) _ _ (horizontal_bar r (view_area v r)) is.between mid p
      (subst (λ a. HasPosition a p) (sym first.same_area) own) off_below is.second
      ∙ bar-if-stays (has_vertical v r) _ _ (vertical_bar r (view_area v r)) old is.between p own off_right is.first

pub own-still : (p : Position) (s t : BufferData) → t.area ≡ s.area → HasPosition s.area p → HasPosition t.area p
own-still p s t e own = subst (λ a. HasPosition a p) (sym e) own

pub first-still : (v : ScrollView) (offset : Position) (r : Rect) (old mid : BufferData) (box : IsBoxArea r)
    (is : PaintsBars v offset r old mid) (p : Position) → HasPosition old.area p → HasPosition is.between.area p
first-still v offset r old mid box is p own =
    own-still p old is.between (bar-if-within (has_vertical v r) _ _ (vertical_bar r (view_area v r)) r old is.between
    (stand-apart v r box).vertical is.first).same_area own

-- what stands in a view lies in its area
pub shown-in-area : (v : ScrollView) (r : Rect) → IsInside (shown_area v.content (view_area v r)) r
shown-in-area v r p has = view-inside v r p (shown-inside v.content (view_area v r) p has)

pub content-within : (v : ScrollView) (offset : Position) (r : Rect) (old new : BufferData)
    → ShowsContent v.content offset (shown_area v.content (view_area v r)) old new → ChangesWithin r old new
content-within v offset r old new is =
    Changes-within (shown_area v.content (view_area v r)) r (λ p _. shown_cell v.content offset (shown_area v.content (view_area v r)) p)
    old new (shown-in-area v r) is

-- an offset leaves room for what is shown
pub offset-room : (content : BufferData) (view : Rect) (offset : Position)
    → ((shown_offset content view offset).x + (shown_area content view).width ≤ content.area.width)
    × ((shown_offset content view offset).y + (shown_area content view).height ≤ content.area.height)
offset-room content view offset = (omega arith, omega arith)

module _ (v : ScrollView) (s : ScrollViewState) (area part : Rect) (old mid new : BufferData) (view : Rect) (offset : Position)
    (clip : IsClipped area old.area part) (is_view : view ≡ view_area v part) (is_offset : offset ≡ shown_offset v.content view s.offset)
    (bars : PaintsBars v offset part old mid) where
  pub render-within : ChangesWithin (shown_area v.content view) mid new → ChangesWithin area old new
  render-within shows =
      let shows' = subst (λ (w : Rect). ChangesWithin (shown_area v.content w) mid new) is_view shows in
      within-wider part area old new clip.of_area
      (within-then part old mid new (bars-within v offset part old mid (box-area area old.area part clip) bars)
      (within-wider (shown_area v.content (view_area v part)) part mid new (shown-in-area v part) shows'))

  pub render-ok : ShowsContent v.content offset (shown_area v.content view) mid new
      → RendersScrollView v s (state_after v.content view offset) area old new
  render-ok shows =
      let t : ScrollViewState = state_after v.content view offset in
      let at : offset ≡ shown_offset v.content (view_area v part) s.offset =
      is_offset ∙ ap (λ w. shown_offset v.content w s.offset) is_view in
      let state : t ≡ rendered_state v part s = λ i. state_after v.content (is_view i) (at i) in
      let shows' : ShowsContent v.content offset (shown_area v.content (view_area v part)) mid new =
      subst (λ (w : Rect). ShowsContent v.content offset (shown_area v.content w) mid new) is_view shows in
      record {
        within = within-wider part area old new clip.of_area
            (within-then part old mid new (bars-within v offset part old mid (box-area area old.area part clip) bars)
            (content-within v offset part mid new shows'));
        kept = λ none. let w : part.width ≡ (intersected area old.area).width = ap (λ (q : Rect). q.width) clip.value in
            let h : part.height ≡ (intersected area old.area).height = ap (λ (q : Rect). q.height) clip.value in
            let some = clip.columns in let high = clip.rows in
            ⊎_elim (λ (e : (intersected area old.area).width ≡ 0). absurd (omega arith))
            (λ (e : (intersected area old.area).height ≡ 0). absurd (omega arith)) none;
        shown = OnPart-clipped (ShowsScrollView v s t) area part old new clip (record {
          state = state;
          picture = record { between = mid; first = bars; second = shows' };
        });
      }

-- what a rendering shows
module _ (v : ScrollView) (s t : ScrollViewState) (area : Rect) (old new : BufferData) (is : RendersScrollView v s t area old new) where
  abbrev r : Rect
  r = intersected area old.area

  part-box : 0 < r.width → 0 < r.height → IsBoxArea r
  part-box wide high = record { columns = wide; rows = high; across = omega arith; down = omega arith }

  pub shows-content : (p : Position) → HasPosition old.area p → HasPosition (shown_area v.content (view_area v r)) p
      → cell_in new p ≡ shown_cell v.content t.offset (shown_area v.content (view_area v r)) p
  shows-content p own has =
      let in_part = shown-in-area v r p has in
      let l = in_part.left in let e = in_part.right in let u = in_part.top in let b = in_part.bottom in
      let wide : 0 < r.width = omega arith in let high : 0 < r.height = omega arith in
      let shown = is.shown.part wide high in
      let bars = bars-within v t.offset r old shown.picture.between (part-box wide high) shown.picture.first in
      shown.picture.second.inside p (own-still p old shown.picture.between bars.same_area own) has

  pub shows-state : 0 < r.width → 0 < r.height → t ≡ rendered_state v r s
  shows-state wide high = (is.shown.part wide high).state

  pub leaves-rest : (p : Position) → HasPosition old.area p → ¬ (HasPosition (shown_area v.content (view_area v r)) p)
      → (has_vertical v r ≡ true → ¬ (HasPosition (vertical_bar r (view_area v r)) p))
      → (has_horizontal v r ≡ true → ¬ (HasPosition (horizontal_bar r (view_area v r)) p)) → cell_in new p ≡ cell_in old p
  leaves-rest p own off off_right off_below =
      bare-or r (λ none. ap (λ s. cell_in s p) (is.shown.nothing none)) (λ wide high.
      let shown = is.shown.part wide high in
      let box = part-box wide high in
      let bars = bars-within v t.offset r old shown.picture.between box shown.picture.first in
      shown.picture.second.outside p (own-still p old shown.picture.between bars.same_area own) off
      ∙ bars-stay v t.offset r old shown.picture.between box shown.picture.first p own off_right off_below)
