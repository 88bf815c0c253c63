use Rattle.std.proofs.Common.{codes}
use Rattle.rtui_backend.specs.{Screen.row_of, TestBackend.screen_of, Print.printed_row}
use Rattle.rtui_backend.proofs.PrintLemmas.{HasWritten-next}
use Rattle.rtui_backend.proofs.test.print.write_rows.Goals as goal

pub loop-b-preserved : goal.loop-b-preserved
loop-b-preserved g c =
    HasWritten-next (λ b. printed_row (codes "|") (row_of (screen_of c.args.backend.now) b)) c.loop-b.b _ _ _ _ _
    c.loop-b-test.true c.loop-b.invariant
    (rw c.row_cells.ensures at c.in_ok-write_row.ensures)
