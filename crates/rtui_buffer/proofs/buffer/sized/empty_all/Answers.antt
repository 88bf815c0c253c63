use Rattle.std.proofs.Common.{length, ◌∙◌, arith}
use Rattle.std.proofs.lemmas.{Bool.Decides.nat_tests, Grind.common_steps}
use Rattle.rtui_buffer.proofs.EmptyLemmas.{all-empty}
use Rattle.rtui_buffer.proofs.buffer.sized.empty_all.Goals as goal

pub returns : goal.returns
returns c = all-empty (length c.args.cells.now) c.fill.new.items (grind (arith, common_steps)) (λ k k_in. c.fill.ensures k
    ∙ grind (arith, common_steps, nat_tests))
