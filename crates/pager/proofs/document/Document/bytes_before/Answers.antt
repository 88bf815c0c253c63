use Rattle.std.proofs.Common.{arith, sym}
use Rattle.pager.proofs.RowLemmas.{bytes-none, bytes-next}
use Rattle.pager.proofs.document.Document.bytes_before.Goals as goal

pub loop-number-init : goal.loop-number-init
loop-number-init c = rw bytes-none (omega arith)

pub loop-number-preserved : goal.loop-number-preserved
loop-number-preserved c =
    rw (bytes-next c.args.self.now c.loop-number.number) (rw (sym c.line_or_empty.ensures) (omega arith))
