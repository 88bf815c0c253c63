use Rattle.std.proofs.Common.{string_bytes}
use Rattle.ansi_model.specs.{Emulator.fed, Emulator.returned, Sends.Performs}
use Rattle.ansi_model.proofs.sequences.line_feeds.Given as goal

abbrev pub invariant-loop : goal.invariant-loop
invariant-loop l = Performs (string_bytes l.fn.out) (string_bytes l.out) (λ t. fed l.counter (returned t))
