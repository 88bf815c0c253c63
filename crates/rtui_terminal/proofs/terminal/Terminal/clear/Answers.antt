use Rattle.std.proofs.Common.{◌≡◌, Option, Some, Ok, refl, inr, rules}
use Rattle.rtui_geometry.specs.declared.position.Position.{Position}
use Rattle.rtui_viewport.specs.{Areas.KeepsAllButLooks, Clearing.ClearsArea}
use Rattle.rtui_viewport.proofs.ClearLemmas.{blank_over, frame_restored, clears_restored, empties_restored, written_restored}
use Rattle.rtui_terminal.specs.Clearing.{EmptiesViewport}
use Rattle.rtui_terminal.proofs.StepLemmas.{blank_in_step, on_same, has_place, cursor_kept}
use Rattle.rtui_terminal.proofs.{KeepLemmas.above_cleared, KeepLemmas.outside_cleared, KeepLemmas.rest_of, MapErrLemmas.passed_ok}
use Rattle.rtui_backend.proofs.FailureLemmas.{holds_anyway}
use Rattle.rtui_terminal.proofs.terminal.Terminal.clear.Goals as goal

pub returns-clause-ok : goal.returns-clause-ok
returns-clause-ok g c =
    let screen = g.B.Backend.screen in
    let s = c.self.inside in
    let start = screen s.backend in
    let asked : c.get_cursor_position.result ≡ Ok c.in_ok-cursor.cursor = search rules in
    let cleared : c.clear_area.result ≡ Ok tt = search rules in
    let found = rw asked at c.get_cursor_position.ensures in
    let clear = rw (cleared, found.stays) at c.clear_area.ensures in
    let cursor : Option Position = Some c.in_ok-cursor.cursor in
    passed_ok c.restore_cursor.result _ c.map_err-3.ensures.variant (λ _ ok.
    let restored = rw ok at c.restore_cursor.ensures.restored in
    let frame : KeepsAllButLooks start (screen c.restore_cursor.new.backend) = frame_restored cursor restored clear.frame in
    let clears : ClearsArea s.viewport s.viewport_area start (screen c.restore_cursor.new.backend) =
    clears_restored s.viewport s.viewport_area cursor restored clear.cleared in
    rw (← c.self.view_is) (record {
      edges = c.self.invariant.0;
      rest = refl;
      previous = c.reset.ensures.emptied;
      frame = frame;
      cursor = cursor_kept start (screen c.clear_area.new.backend)
          (screen c.restore_cursor.new.backend) c.in_ok-cursor.cursor found.ok found.on_grid clear.frame.size.width
          clear.frame.size.height restored;
      clears = clears;
      corner = λ inline. empties_restored cursor restored (record { frame = clear.frame; grid = (clear.corner inline).grid });
      cut = λ fixed top. empties_restored cursor restored (clear.cut fixed top);
      written = written_restored s.viewport s.viewport_area cursor start start _ _ refl refl restored clear.written;
      in_step = λ on area.
          blank_in_step screen _ c.self.invariant.0 (on_same _ _ _ frame.size.width frame.size.height on)
          (blank_over _ _ on (clears (has_place _ _ _ c.self.invariant.1 on))) (rw area at c.reset.ensures.emptied);
      above = above_cleared _ _ c.self.invariant.1 clears;
      keeps = λ fixed on. rest_of screen _ _ refl frame.size (outside_cleared _ _ clears fixed on);
    }))

pub returns-clause-err : goal.returns-clause-err
returns-clause-err g c =
    let asked : c.get_cursor_position.result ≡ Ok c.in_ok-cursor.cursor = search rules in
    let cleared : c.clear_area.result ≡ Ok tt = search rules in
    let clear = rw (cleared, (rw asked at c.get_cursor_position.ensures.stays)) at c.clear_area.ensures in
    let emptied : EmptiesViewport c.self.inside.viewport c.self.inside.viewport_area (g.B.Backend.screen c.self.inside.backend)
    (g.B.Backend.screen c.clear_area.new.backend) =
    record { clears = clear.cleared; cut = clear.cut } in
    holds_anyway c.map_err-3.result (rw (← c.self.view_is)
    (record { rest = refl; previous = inr (c.reset.ensures.emptied, (c.clear_area.new.backend, emptied)) }))
