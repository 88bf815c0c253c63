use Rattle.std.proofs.Common.{◌≡◌, take}
use Rattle.rtui_buffer.proofs.buffer.sized.copy_all.Given as goal

abbrev pub invariant-loop-i : goal.invariant-loop-i
invariant-loop-i l = take l.i l.copies ≡ take l.i l.cells
