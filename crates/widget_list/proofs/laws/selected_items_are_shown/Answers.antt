use Rattle.widget_list.proofs.ShownLemmas.{selected-shown}
use Rattle.widget_list.proofs.laws.selected_items_are_shown.Goals as goal

pub returns : goal.returns
returns c = selected-shown
