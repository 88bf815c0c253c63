use Rattle.chooser.proofs.SettlingLemmas.{new-settled, stays-settled}
use Rattle.chooser.proofs.laws.the_state_is_always_settled.Goals as goal

pub returns-clause-begun : goal.returns-clause-begun
returns-clause-begun c = new-settled

pub returns-clause-stays : goal.returns-clause-stays
returns-clause-stays c = λ c m is. stays-settled c m is
