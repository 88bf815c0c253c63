use Rattle.std.proofs.Common.{◌≡◌, Ok, rules, refl, sym, ◌∙◌, inr}
use Rattle.rtui_buffer.specs.BufferData.{IsEmptied}
use Rattle.rtui_viewport.proofs.ClearLemmas.{blank_over, frame_more, frame_restored, clears_restored, empties_restored}
use Rattle.rtui_viewport.proofs.ClearLemmas.{written_restored}
use Rattle.rtui_terminal.specs.{Faults.FailsOnlyByBackend}
use Rattle.rtui_terminal.proofs.StepLemmas.{blank_in_step, on_same, has_place, emptied_frame, emptied_placed, placed_in_place}
use Rattle.rtui_terminal.proofs.StepLemmas.{resized_same, cursor_back}
use Rattle.rtui_terminal.proofs.MapErrLemmas.{at_fault}
use Rattle.rtui_terminal.proofs.terminal.Terminal.resize.Goals as goal

pub returns-clause-outcome : goal.returns-clause-outcome
returns-clause-outcome g c =
    let screen = g.B.Backend.screen in
    let s = c.self.inside in
    let next = c.in_ok-placed.placed.area in
    let cursor = c.in_ok-placed.placed.cursor in
    let places_it : c.place_viewport.result ≡ Ok c.in_ok-placed.placed = search rules in
    let clears_it : c.clear_area.result ≡ Ok tt = search rules in
    let restores : c.restore_cursor.result ≡ Ok tt = search rules in
    let found = rw (places_it, c.saturating_sub-offset.ensures) at c.place_viewport.ensures in
    let cleared = rw clears_it at c.clear_area.ensures in
    let restored = rw restores at c.restore_cursor.ensures.restored in
    let middle = screen c.place_viewport.new.backend in
    let emptied = emptied_frame _ {s = found.placed.scrolled} {m = middle} found.placed.empties in
    let kept = frame_restored cursor restored cleared.frame in
    let clears = clears_restored s.viewport next cursor restored cleared.cleared in
    let empties = emptied_placed s.viewport next found.placed clears
    (λ fixed top. empties_restored cursor restored (cleared.cut fixed top)) in
    let previous : IsEmptied next c.reset.new.self = rw c.set_area.ensures.previous.area_is at c.reset.ensures.emptied in
    rw (← c.self.view_is) (record {
      rest = refl;
      viewport_area = found.area;
      current = resized_same next c.in_ok-reserve.ensures.current c.set_area.ensures.current;
      previous = previous;
      scrolled = found.placed.scrolled;
      scrolls = found.placed.scrolls;
      frame = frame_more {r = found.placed.scrolled} emptied kept;
      empties = empties.empties;
      cut = empties.cut;
      cursor = cursor_back s.viewport (screen s.backend) middle
          (screen c.clear_area.new.backend) _ _ found.cursor found.on_grid
          (cleared.frame.size.width ∙ emptied.size.width ∙ found.placed.scrolls.width)
          (cleared.frame.size.height ∙ emptied.size.height ∙ found.placed.scrolls.height)
          found.placed.cursor cleared.cursor restored;
      written = written_restored s.viewport next cursor found.placed.scrolled middle _ _
          found.placed.written emptied.size.width restored cleared.written;
      on_screen = λ known. on_same _ _ _ kept.size.width kept.size.height (found.on_screen known);
      in_step = λ on.
          let back = on_same next _ middle (sym kept.size.width) (sym kept.size.height) on in
          blank_in_step screen _ found.fits on
          (blank_over _ _ back (clears (has_place _ _ _ (placed_in_place s.viewport _ _ _ _ next found.area) back))) previous;
    })

only_by_backend : (g : _) (c : goal.After-from_residual-in_err-map_err-2 g)
    → FailsOnlyByBackend c.from_residual-in_err-map_err-2.result
only_by_backend g c = search rules

-- the cursor wasn't set back: the viewport was emptied at its new place, and so is the previous buffer
pub returns-in_err-map_err-2-clause-outcome : goal.returns-in_err-map_err-2-clause-outcome
returns-in_err-map_err-2-clause-outcome g c =
    let s = c.self.inside in
    let next = c.in_ok-placed.placed.area in
    let places_it : c.place_viewport.result ≡ Ok c.in_ok-placed.placed = search rules in
    let clears_it : c.clear_area.result ≡ Ok tt = search rules in
    let found = rw (places_it, c.saturating_sub-offset.ensures) at c.place_viewport.ensures in
    let cleared = rw clears_it at c.clear_area.ensures in
    let previous : IsEmptied next c.reset.new.self = rw c.set_area.ensures.previous.area_is at c.reset.ensures.emptied in
    at_fault _ _ _ (only_by_backend g c) c.from_residual-in_err-map_err-2.ensures.0 (λ error. rw (← c.self.view_is) (record {
      rest = refl;
      left = inr (
        record {
          current = resized_same next c.in_ok-reserve.ensures.current c.set_area.ensures.current;
          previous = inr (record {
            previous = previous;
            scrolled = found.placed.scrolled;
            scrolls = found.placed.scrolls;
            emptied = c.clear_area.new.backend;
            empties = emptied_placed s.viewport next found.placed cleared.cleared cleared.cut;
          });
        },
        found.area,
      );
      areas = λ _. record { current = c.set_area.ensures.current.area_is; previous = previous.area };
    }))
