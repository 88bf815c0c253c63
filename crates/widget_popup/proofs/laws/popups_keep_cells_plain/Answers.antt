use Rattle.widget_popup.proofs.PopupLemmas.{popup-plain}
use Rattle.widget_popup.proofs.laws.popups_keep_cells_plain.Goals as goal

pub returns : goal.returns
returns c = popup-plain
