use Rattle.std.proofs.Common.{arith}
use Rattle.std.proofs.lemmas.Bool.Decides.{nat_tests}
use Rattle.ansi_model.proofs.flags.mark_symbol.Goals as goal

pub returns : goal.returns
returns c = λ k. grind (arith, nat_tests, c.loop-place.invariant k)
