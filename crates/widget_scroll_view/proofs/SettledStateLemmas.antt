-- A view whose state is settled leaves it as it is.
use Rattle.std.proofs.Common.{◌≡◌, ℕ, ◌-◌, ◌<◌, ◌==◌, ◌||◌, ⊎_elim, min, true, false, refl, sym, ap, subst, ◌∙◌, arith}
use Rattle.std.proofs.lemmas.Bool.Decides.{nat_tests}
use Rattle.ratatui_core.specs.{Layout.Rect, Layout.Position, Layout.intersected, Buffer.BufferData}
use Rattle.widget_boxes.specs.Framed.{IsBare}
use Rattle.widget_boxes.proofs.InnerLemmas.{bare-or}
use Rattle.widget_scroll_view.specs.declared.scroll_view.ScrollView.{ScrollView}
use Rattle.widget_scroll_view.specs.declared.state.ScrollViewState.{ScrollViewState}
use Rattle.widget_scroll_view.specs.Places.{view_area, shown_offset}
use Rattle.widget_scroll_view.specs.ScrollViews.{state_after, rendered_state, settled_view, RendersScrollView}

least-twice : (a b : ℕ) → min (min a b) b ≡ min a b
least-twice a b = omega arith

offset-twice : (content : BufferData) (view : Rect) (offset : Position)
    → shown_offset content view (shown_offset content view offset) ≡ shown_offset content view offset
offset-twice content view offset =
    let x = least-twice offset.x (content.area.width - view.width) in
    let y = least-twice offset.y (content.area.height - view.height) in
    λ i. record { x = x i; y = y i }

rendered-twice : (v : ScrollView) (r : Rect) (s : ScrollViewState) → rendered_state v r (rendered_state v r s) ≡ rendered_state v r s
rendered-twice v r s = ap (state_after v.content (view_area v r)) (offset-twice v.content (view_area v r) s.offset)

module _ (v : ScrollView) (r : Rect) where
  settled-bare : (s : ScrollViewState) → IsBare r → settled_view v r s ≡ s
  settled-bare s bare =
      let test : ((r.width == 0) || (r.height == 0)) ≡ true =
      ⊎_elim (λ (e : r.width ≡ 0). grind (arith, nat_tests)) (λ (e : r.height ≡ 0). grind (arith, nat_tests)) bare in
      rw test refl

  pub settled-cells : (s : ScrollViewState) → 0 < r.width → 0 < r.height → settled_view v r s ≡ rendered_state v r s
  settled-cells s wide high =
      let test : ((r.width == 0) || (r.height == 0)) ≡ false = grind (arith, nat_tests) in rw test refl

  -- settling twice is settling once
  pub settled-twice : (s : ScrollViewState) → settled_view v r (settled_view v r s) ≡ settled_view v r s
  settled-twice s =
      bare-or r (λ bare. settled-bare (settled_view v r s) bare)
      (λ wide high.
      let once = settled-cells s wide high in
      ap (settled_view v r) once ∙ settled-cells (rendered_state v r s) wide high ∙ rendered-twice v r s ∙ sym once)

module _ (v : ScrollView) (s t : ScrollViewState) (area : Rect) (old new : BufferData) (is : RendersScrollView v s t area old new) where
  abbrev part : Rect
  part = intersected area old.area

  -- what a rendering leaves is settled
  pub rendering-settles : t ≡ settled_view v part s
  rendering-settles =
      bare-or part (λ none. is.kept none ∙ sym (settled-bare v part s none))
      (λ wide high. (is.shown.part wide high).state ∙ sym (settled-cells v part s wide high))

  -- what is shown of a state is shown of the state that is left
  shows-settled : RendersScrollView v t t area old new
  shows-settled = record {
    within = is.within;
    kept = λ _. refl;
    shown = record {
      nothing = is.shown.nothing;
      part = λ wide high. let there = is.shown.part wide high in record {
        state = there.state ∙ sym (ap (rendered_state v part) there.state ∙ rendered-twice v part s);
        picture = there.picture;
      };
    };
  }

  pub settled-shows : let u = settled_view v part s in RendersScrollView v u u area old new
  settled-shows = subst (λ (u : ScrollViewState). RendersScrollView v u u area old new) rendering-settles shows-settled
