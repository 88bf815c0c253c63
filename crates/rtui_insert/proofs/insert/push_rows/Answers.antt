use Rattle.std.proofs.Common.{◌≡◌, ◌∙◌, ap, refl, arith, rules, inr}
use Rattle.std.proofs.lemmas.Grind.{common_steps}
use Rattle.rtui_geometry.specs.declared.rect.Rect.{Rect}
use Rattle.rtui_insert.proofs.PushLemmas.{still_blank, pushed_none, pushed_first, pushed_next, pushing_first}
use Rattle.rtui_insert.proofs.PushLemmas.{pushing_next}
use Rattle.rtui_backend.proofs.FailureLemmas.{fails_weaker, holds_anyway}
use Rattle.rtui_insert.proofs.insert.push_rows.Goals as goal
use Rattle.rtui_insert.proofs.insert.push_rows.Goals.{then-row-eq0+in_ok-draw_first_row, else-row-eq0+in_ok-draw_rows}

pub loop-row-init : goal.loop-row-init
loop-row-init g c = record {
  counts = search rules;
  shape = search rules;
  blank = c.requires.blank;
  same = refl;
  pushed = λ fit settled. pushed_none c.args.rows.now (g.B.Backend.screen c.args.backend.now);
}

pub loop-row-preserved : goal.loop-row-preserved
loop-row-preserved g c =
    let same : c.area.result.now.height ≡ c.args.rows.now.area.height = ap (λ (r : Rect). r.height) c.area.ensures.area in
    let before = c.loop-row.invariant in
    let up = c.in_ok-scroll_region_up.ensures.ok in
    elim c.if-row-eq0.branch [
      | then-row-eq0+in_ok-draw_first_row w ↦ record {
        counts = search rules;
        blank = rw w.blank-is (still_blank before.blank w.draw_first_row.ensures.blank);
        same = rw w.blank-is (w.draw_first_row.ensures.blank.area ∙ before.same);
        shape = grind (arith, common_steps);
        pushed = λ fit settled. pushed_first c.args.rows.now c.loop-row.row _ _ _ (before.pushed fit settled) fit settled
            (omega arith) _ (rw w.backend-is at up) (omega arith) w.in_ok-draw_first_row.ensures.ok;
      }
      | else-row-eq0+in_ok-draw_rows w ↦ record {
        counts = search rules;
        blank = rw w.blank-is before.blank;
        same = rw w.blank-is before.same;
        shape = grind (arith, common_steps);
        pushed = λ fit settled. pushed_next c.args.rows.now c.loop-row.row _ _ _ (before.pushed fit settled) fit settled
            (omega arith) _ (rw w.backend-is at up) _ before.blank (omega arith) w.in_ok-draw_rows.ensures.ok;
      }
    ]

pub returns-in_err-draw_first_row-clause-err : goal.returns-in_err-draw_first_row-clause-err
returns-in_err-draw_first_row-clause-err g c =
    let same : c.area.result.now.height ≡ c.args.rows.now.area.height = ap (λ (r : Rect). r.height) c.area.ensures.area in
    holds_anyway _ (fails_weaker (λ b drew fit settled. pushing_first c.args.rows.now c.loop-row.row _ _ _
    (c.loop-row.invariant.pushed fit settled) fit settled (omega arith) (omega arith) drew) c.in_err-draw_first_row.ensures.err)

pub returns-in_err-draw_rows-clause-err : goal.returns-in_err-draw_rows-clause-err
returns-in_err-draw_rows-clause-err g c =
    let same : c.area.result.now.height ≡ c.args.rows.now.area.height = ap (λ (r : Rect). r.height) c.area.ensures.area in
    let before = c.loop-row.invariant in
    holds_anyway _ (fails_weaker (λ b drew fit settled. pushing_next c.args.rows.now c.loop-row.row _ _ _
    (before.pushed fit settled) fit settled (omega arith) _ before.blank (omega arith) drew) c.in_err-draw_rows.ensures.err)

pub returns-in_err-scroll_region_up-clause-err : goal.returns-in_err-scroll_region_up-clause-err
returns-in_err-scroll_region_up-clause-err g c =
    let same : c.area.result.now.height ≡ c.args.rows.now.area.height = ap (λ (r : Rect). r.height) c.area.ensures.area in
    let before = c.loop-row.invariant in
    holds_anyway c.from_residual-in_err-scroll_region_up.result (record {
      before = c.if-row-eq0.backend;
      was = λ fit settled. elim c.if-row-eq0.branch [
        | then-row-eq0+in_ok-draw_first_row w ↦ rw w.backend-is (pushing_first c.args.rows.now c.loop-row.row _ _ _
            (before.pushed fit settled) fit settled (omega arith) (omega arith) (inr w.in_ok-draw_first_row.ensures.ok))
        | else-row-eq0+in_ok-draw_rows w ↦ rw w.backend-is (pushing_next c.args.rows.now c.loop-row.row _ _ _
            (before.pushed fit settled) fit settled (omega arith) _ before.blank (omega arith) (inr w.in_ok-draw_rows.ensures.ok))
      ];
      stopped = c.in_err-scroll_region_up.ensures.stops;
    })
