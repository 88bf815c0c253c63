use Rattle.widget_list.proofs.SettledFrameLemmas.{rendering-settles, settles-one}
use Rattle.widget_table.proofs.SettledTableLemmas.{table-leads}
use Rattle.widget_table.proofs.laws.renderings_settle_the_state.Goals as goal

pub returns-clause-leaves : goal.returns-clause-leaves
returns-clause-leaves c = λ t. rendering-settles t.style t.block (table-leads t)

pub returns-clause-one : goal.returns-clause-one
returns-clause-one c = λ t s u area. settles-one t.style t.block (table-leads t) area s u
