use Rattle.std.proofs.Common.{◌≡◌}
use Rattle.rtui_buffer.proofs.buffer.collected.Given as goal

abbrev pub invariant-loop-update : goal.invariant-loop-update
invariant-loop-update l = l.all.items ≡ l.yielded
