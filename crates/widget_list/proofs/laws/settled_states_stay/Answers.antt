use Rattle.widget_list.proofs.SettledFrameLemmas.{settled-twice, settled-stays, settled-shows}
use Rattle.widget_list.proofs.SettledLemmas.{list-leads}
use Rattle.widget_list.proofs.laws.settled_states_stay.Goals as goal

pub returns-clause-twice : goal.returns-clause-twice
returns-clause-twice c = λ l s area. settled-twice l.style l.block (list-leads l) area s

pub returns-clause-stays : goal.returns-clause-stays
returns-clause-stays c = λ l. settled-stays l.style l.block (list-leads l)

pub returns-clause-shown : goal.returns-clause-shown
returns-clause-shown c = λ l. settled-shows l.style l.block (list-leads l)
