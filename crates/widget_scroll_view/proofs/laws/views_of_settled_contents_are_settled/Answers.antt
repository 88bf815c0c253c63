use Rattle.widget_scroll_view.proofs.SettledViewLemmas.{view-settled, ready-over}
use Rattle.widget_scroll_view.proofs.laws.views_of_settled_contents_are_settled.Goals as goal

pub returns-clause-settled : goal.returns-clause-settled
returns-clause-settled c = view-settled

pub returns-clause-plain : goal.returns-clause-plain
returns-clause-plain c = ready-over
