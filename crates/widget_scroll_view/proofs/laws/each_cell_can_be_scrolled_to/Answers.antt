use Rattle.widget_scroll_view.proofs.{PlaceLemmas.can-be-seen, SettledViewLemmas.shows-seen}
use Rattle.widget_scroll_view.proofs.laws.each_cell_can_be_scrolled_to.Goals as goal

pub returns-clause-seen : goal.returns-clause-seen
returns-clause-seen c = can-be-seen

pub returns-clause-shown : goal.returns-clause-shown
returns-clause-shown c = λ v s t area old new is q seen from settled has narrow.
    shows-seen v s t area old new is q seen from settled has narrow
