use Rattle.widget_tree.proofs.SettledTreeLemmas.{settled-twice, settled-shows}
use Rattle.widget_tree.proofs.laws.settled_states_stay.Goals as goal

pub returns-clause-twice : goal.returns-clause-twice
returns-clause-twice c = λ t s area. settled-twice t area s

pub returns-clause-shown : goal.returns-clause-shown
returns-clause-shown c = settled-shows
