use Rattle.std.proofs.Common.{arith}
use Rattle.rtui_buffer.proofs.OverlayLemmas.{inner-rows}
use Rattle.rtui_buffer.proofs.buffer.overlay.move_inner.Goals as goal

pub move_block-requires-clause-rows : goal.move_block-requires-clause-rows
move_block-requires-clause-rows c = let e = c.requires.count in
    omega (arith, inner-rows c.args.area c.args.inner c.requires.around)
