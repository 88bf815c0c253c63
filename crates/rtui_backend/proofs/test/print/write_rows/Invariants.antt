use Rattle.std.proofs.Common.{codes, ◌-◌}
use Rattle.std.specs.List.{flat_map, range_with_len}
use Rattle.rtui_backend.specs.{Screen.row_of, TestBackend.screen_of, Print.printed_row}
use Rattle.rtui_backend.proofs.PrintLemmas.{HasWritten}
use Rattle.rtui_backend.proofs.test.print.write_rows.Given as goal

abbrev pub invariant-loop-b : goal.invariant-loop-b
invariant-loop-b g l =
    let text = flat_map (λ b. printed_row (codes "|") (row_of (screen_of l.backend) b)) in
    HasWritten (g.W.Write.contents l.initial.writer) (g.W.Write.contents l.writer) (text (range_with_len l.b (l.b-end - l.b)))
    (text (range_with_len 0 l.b-end))
