use Rattle.std.proofs.Common.{arith}
use Rattle.rtui_buffer.proofs.PrintableLemmas.{bytes-turn}
use Rattle.rtui_buffer.proofs.buffer.painting.paint_printable.Goals as goal

pub loop-i-preserved : goal.loop-i-preserved
loop-i-preserved c =
    bytes-turn c.args.start c.loop-i.i c.args.style c.args.bytes.now c.loop-i.cells _ c.index-cells-start.result _
    c.loop-i-test.true (omega arith) c.show_byte.ensures.shown
    c.loop-i.invariant
