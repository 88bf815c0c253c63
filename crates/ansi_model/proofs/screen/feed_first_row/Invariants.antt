use Rattle.std.proofs.Common.{string_bytes}
use Rattle.ansi_model.specs.{Emulator.with_region, Sends.Performs}
use Rattle.ansi_model.specs.Inner.{fed_and_lowered_by}
use Rattle.ansi_model.proofs.screen.feed_first_row.Given as goal

abbrev pub invariant-loop : goal.invariant-loop
invariant-loop l = Performs (string_bytes l.fn.out) (string_bytes l.out) (λ t. fed_and_lowered_by l.counter (with_region 0 2 t))
