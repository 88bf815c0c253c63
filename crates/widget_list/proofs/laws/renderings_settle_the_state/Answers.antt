use Rattle.widget_list.proofs.{SettledFrameLemmas.rendering-settles, SettledFrameLemmas.settles-one, SettledLemmas.list-leads}
use Rattle.widget_list.proofs.laws.renderings_settle_the_state.Goals as goal

pub returns-clause-leaves : goal.returns-clause-leaves
returns-clause-leaves c = λ l. rendering-settles l.style l.block (list-leads l)

pub returns-clause-one : goal.returns-clause-one
returns-clause-one c = λ l s t area. settles-one l.style l.block (list-leads l) area s t
