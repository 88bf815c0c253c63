use Rattle.std.proofs.Common.{◌≡◌, ◌+◌, ◌∷◌, [], ap, sym, ◌∙◌, arith}
use Rattle.std.proofs.lemmas.{Grind.common_steps}
use Rattle.rtui_cell.specs.Look.{look_of}
use Rattle.rtui_diff.specs.Cells.{cell}
use Rattle.rtui_backend.specs.CellGrid.{look_at}
use Rattle.rtui_backend.proofs.{LineLemmas.look_at-cell, PlainLemmas.AreUnmarked-append, PlainLemmas.AreUnmarked-one}
use Rattle.rtui_backend.proofs.{ShiftLemmas.looks_pushed}
use Rattle.rtui_backend.proofs.test.scroll.copied_row.Goals as goal
use Rattle.rtui_backend.proofs.test.scroll.copied_row.Goals.{in-Some+in_ok-cell-in-Some, in-None}

pub loop-a-preserved : goal.loop-a-preserved
loop-a-preserved c =
    let cells = c.args.cells.now in
    let at = c.args.start + c.loop-a.a in
    let cell : c.match-get.cell ≡ cell cells at = elim c.match-get.branch [
      | in-Some+in_ok-cell-in-Some w ↦ grind (arith, common_steps)
      | in-None w ↦ grind (arith, common_steps)
    ] in
    record {
      looks = looks_pushed look_of (λ a. look_at cells (c.args.start + a)) c.loop-a.row.items _ c.match-get.cell c.loop-a.a
          c.in_ok-push.ensures.items c.loop-a.invariant.looks (ap look_of cell ∙ sym (look_at-cell cells at));
      unmarked = λ plain. rw c.in_ok-push.ensures.items (AreUnmarked-append c.loop-a.row.items (c.match-get.cell ∷ [])
          (c.loop-a.invariant.unmarked plain) (AreUnmarked-one c.match-get.cell (rw cell (plain at))));
    }
