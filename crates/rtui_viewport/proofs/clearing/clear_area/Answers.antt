use Rattle.std.proofs.lemmas.Result.{on_ok_weaker}
use Rattle.rtui_viewport.proofs.ClearLemmas.{clears_inline, frame_cleared}
use Rattle.rtui_viewport.proofs.clearing.clear_area.Goals as goal

pub returns-in-Fullscreen-clause-cleared : goal.returns-in-Fullscreen-clause-cleared
returns-in-Fullscreen-clause-cleared g c =
    on_ok_weaker c.clear_region.result
    (λ p. rw c.in-Fullscreen.is (λ place. record { frame = frame_cleared _ p; grid = p.grid }))
    c.clear_region.ensures.ok

pub returns-in_ok-set_cursor_position-in-Inline-clause-cleared :
    goal.returns-in_ok-set_cursor_position-in-Inline-clause-cleared
returns-in_ok-set_cursor_position-in-Inline-clause-cleared g c =
    on_ok_weaker c.clear_region-in-Inline.result
    (λ p. rw c.in-Inline.is (clears_inline c.in-Inline.field-0 c.args.area (rw (
      c.in_ok-set_cursor_position-in-Inline.ensures.ok,
      c.as_position.ensures,
    ) at p)))
    c.clear_region-in-Inline.ensures.ok
