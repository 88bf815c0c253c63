use Rattle.std.proofs.Common.{◌≡◌, ap, arith}
use Rattle.rtui_geometry.specs.declared.rect.Rect.{Rect}
use Rattle.rtui_backend.proofs.FailureLemmas.{fails_weaker, holds_anyway}
use Rattle.rtui_insert.specs.Scrolling.{rows_down}
use Rattle.rtui_insert.proofs.PushLemmas.{lowered_rows, lowering_drawn}
use Rattle.rtui_insert.proofs.insert.insert_down.Goals as goal

pub returns-clause-ok : goal.returns-clause-ok
returns-clause-ok g c = λ room settled.
    let same : c.area.result.now.height ≡ c.args.rows.now.area.height = ap (λ (r : Rect). r.height) c.area.ensures.area in
    lowered_rows c.args.rows.now c.min-count.result c.args.viewport _ _ room.width (omega (arith, room.height, room.viewport))
    settled (omega arith)
    c.in_ok-scroll_region_down.ensures.ok _ c.args.blank.now c.requires.blank (omega arith) c.in_ok-draw_rows.ensures.ok

pub returns-in_err-draw_rows-clause-err : goal.returns-in_err-draw_rows-clause-err
returns-in_err-draw_rows-clause-err g c =
    let same : c.area.result.now.height ≡ c.args.rows.now.area.height = ap (λ (r : Rect). r.height) c.area.ensures.area in
    let count : rows_down c.args.rows.now.area.height c.args.viewport c.args.height ≡ c.min-count.result = omega arith in
    holds_anyway _ (fails_weaker (λ b drew room settled. rw count (lowering_drawn c.args.rows.now c.min-count.result
    c.args.viewport _ _ room.width (omega (arith, room.height, room.viewport)) settled (omega arith)
    c.in_ok-scroll_region_down.ensures.ok _ c.args.blank.now c.requires.blank (omega arith) drew)) c.in_err-draw_rows.ensures.err)
