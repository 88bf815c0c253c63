use Rattle.std.proofs.Common.{◌≡◌, min, arith}
use Rattle.ratatui_core.specs.Buffer.{text_columns}
use Rattle.rtui_drawing.proofs.DrawingLemmas.{done-all, done-stop}
use Rattle.widget_bars.proofs.long_bar.write_over.Goals as goal

pub returns-in_err-write : goal.returns-in_err-write
returns-in_err-write c =
    done-stop c.from_residual.result c.from_residual.ensures.0 (rw c.new.ensures at c.in_err-write.ensures.done)

pub returns : goal.returns
returns c =
    let count : c.min-columns.result ≡ min c.args.count (text_columns c.args.text.now) = omega arith in
    done-all (_, (rw c.new.ensures at c.in_ok-write.ensures.done).ok, rw (c.of.ensures, count) at c.put_style.ensures)
