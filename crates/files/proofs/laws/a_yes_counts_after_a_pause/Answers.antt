use Rattle.std.proofs.Common.{refl}
use Rattle.files.specs.Moves.{browsed_after}
use Rattle.files.proofs.LawLemmas.{yes-counts, quiet-stays}
use Rattle.files.proofs.laws.a_yes_counts_after_a_pause.Goals as goal

pub returns-clause-counts : goal.returns-clause-counts
returns-clause-counts c = λ b e unsure sure. let k = yes-counts b e unsure sure in (k.0, k.1, k.2)

pub returns-clause-asked : goal.returns-clause-asked
returns-clause-asked c = quiet-stays

pub returns-clause-answered : goal.returns-clause-answered
unfolding browsed_after
returns-clause-answered c = λ b o. (refl, refl)
