use Rattle.std.proofs.Common.{arith}
use Rattle.std.proofs.lemmas.Grind.{common_steps}
use Rattle.rtui_buffer.proofs.PaintedLemmas.{emptied-filled}
use Rattle.rtui_buffer.proofs.buffer.painting.empty_part.Goals as goal

pub returns : goal.returns
returns c = emptied-filled c.args.from c.args.to c.args.cells.now c.fill.new.items (omega arith) (omega arith)
    (grind (arith, common_steps)) c.fill.ensures
