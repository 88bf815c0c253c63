use Rattle.std.proofs.Common.{◌≡◌, drop}
use Rattle.screenplay.specs.Puts.{with_puts}
use Rattle.screenplay.proofs.playing.set_puts.Given as goal

abbrev pub invariant-loop-x : goal.invariant-loop-x
invariant-loop-x l = with_puts (drop l.x-index l.puts) l.buffer ≡ with_puts l.puts l.initial.buffer
