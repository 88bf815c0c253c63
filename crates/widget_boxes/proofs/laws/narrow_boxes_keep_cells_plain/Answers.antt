use Rattle.widget_boxes.proofs.PlainBoxLemmas.{plain-box}
use Rattle.widget_boxes.proofs.laws.narrow_boxes_keep_cells_plain.Goals as goal

pub returns : goal.returns
returns c = plain-box
