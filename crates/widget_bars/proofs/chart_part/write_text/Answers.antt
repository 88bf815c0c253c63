use Rattle.std.proofs.Common.{arith}
use Rattle.rtui_drawing.proofs.{DrawingLemmas.done-all, DrawingLemmas.done-err, WriteLemmas.row-middle}
use Rattle.widget_bars.proofs.ChartLemmas.{middle-done}
use Rattle.widget_bars.proofs.chart_part.write_text.Goals as goal

pub write-requires : goal.write-requires
write-requires c = rw c.of.ensures (row-middle c.args.buf.now.area c.args.row _ c.requires)

pub returns-in_err-write : goal.returns-in_err-write
returns-in_err-write c =
    done-err c.from_residual.result c.from_residual.ensures.0 (middle-done c.min-columns.result c.args.style c.args.text.now
    c.args.row c.of.result _ c.of.ensures (omega arith) c.in_err-write.ensures.done)

pub returns : goal.returns
returns c =
    done-all (middle-done c.min-columns.result c.args.style c.args.text.now c.args.row c.of.result _ c.of.ensures
    (omega arith) c.in_ok-write.ensures.done).ok
