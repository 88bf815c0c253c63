use Rattle.widget_list.proofs.SettledFrameLemmas.{settled-twice, settled-stays, settled-shows}
use Rattle.widget_table.proofs.SettledTableLemmas.{table-leads}
use Rattle.widget_table.proofs.laws.settled_states_stay.Goals as goal

pub returns-clause-twice : goal.returns-clause-twice
returns-clause-twice c = λ t s area. settled-twice t.style t.block (table-leads t) area s

pub returns-clause-stays : goal.returns-clause-stays
returns-clause-stays c = λ t. settled-stays t.style t.block (table-leads t)

pub returns-clause-shown : goal.returns-clause-shown
returns-clause-shown c = λ t. settled-shows t.style t.block (table-leads t)
