use Rattle.widget_scroll_view.proofs.SettledStateLemmas.{settled-twice, settled-shows}
use Rattle.widget_scroll_view.proofs.laws.settled_states_stay.Goals as goal

pub returns-clause-twice : goal.returns-clause-twice
returns-clause-twice c = λ v s area. settled-twice v area s

pub returns-clause-shown : goal.returns-clause-shown
returns-clause-shown c = settled-shows
