use Rattle.std.proofs.Common.{◌≡◌, ◌-◌, ap, arith, rules}
use Rattle.std.proofs.lemmas.Grind.{common_steps}
use Rattle.rtui_geometry.specs.declared.rect.Rect.{Rect}
use Rattle.rtui_backend.proofs.FailureLemmas.{fails_weaker, holds_anyway}
use Rattle.rtui_insert.proofs.PushLemmas.{raised_none, raised_more, still_raising, raising_drawn}
use Rattle.rtui_insert.proofs.insert.insert_up.Goals as goal

pub loop-done-init : goal.loop-done-init
loop-done-init g c = let same : c.area.result.now.height ≡ c.args.rows.now.area.height =
    ap (λ (r : Rect). r.height) c.area.ensures.area in record {
      all = search rules;
      done = omega arith;
      first = omega arith;
      counts = search rules;
      shape = search rules;
      flushed = search rules;
      raised = λ wide fits settled. raised_none c.args.rows.now c.args.first _ c.args.top (g.B.Backend.screen c.args.backend.now)
          (omega arith);
    }

pub loop-done-preserved : goal.loop-done-preserved
loop-done-preserved g c =
    let same : c.area.result.now.height ≡ c.args.rows.now.area.height = ap (λ (r : Rect). r.height) c.area.ensures.area in
    let before = c.loop-done.invariant in record {
      all = before.all;
      done = omega arith;
      first = omega arith;
      counts = search rules;
      shape = grind (arith, common_steps);
      flushed = search rules;
      raised = λ wide fits settled.
          raised_more c.args.rows.now c.args.first (c.loop-done.done - c.args.first) c.loop-done.done c.args.top
          c.min-count.result _ _ _ (omega arith) (before.raised wide fits settled) wide fits settled
          (omega arith) (c.requires.room (omega arith))
          (omega arith) c.in_ok-scroll_region_up.ensures.ok _ c.args.blank.now c.requires.blank
          (omega arith) c.in_ok-draw_rows.ensures.ok _ (omega arith);
    }

pub returns-in_err-scroll_region_up-clause-err : goal.returns-in_err-scroll_region_up-clause-err
returns-in_err-scroll_region_up-clause-err g c =
    let same : c.area.result.now.height ≡ c.args.rows.now.area.height = ap (λ (r : Rect). r.height) c.area.ensures.area in
    let before = c.loop-done.invariant in
    holds_anyway c.from_residual.result (record {
      before = c.loop-done.backend;
      was = λ wide fits settled.
          still_raising c.args.rows.now c.args.first _ c.args.top _ _ (omega arith) (before.raised wide fits settled);
      stopped = c.in_err-scroll_region_up.ensures.stops;
    })

pub returns-in_err-draw_rows-clause-err : goal.returns-in_err-draw_rows-clause-err
returns-in_err-draw_rows-clause-err g c =
    let same : c.area.result.now.height ≡ c.args.rows.now.area.height = ap (λ (r : Rect). r.height) c.area.ensures.area in
    let before = c.loop-done.invariant in
    holds_anyway _ (fails_weaker (λ b drew wide fits settled.
    raising_drawn c.args.rows.now c.args.first (c.loop-done.done - c.args.first) c.loop-done.done c.args.top
    c.min-count.result _ _ _ (omega arith) (before.raised wide fits settled) wide fits settled
    (omega arith) (c.requires.room (omega arith))
    (omega arith) c.in_ok-scroll_region_up.ensures.ok _ c.args.blank.now c.requires.blank (omega arith) drew)
    c.in_err-draw_rows.ensures.err)
