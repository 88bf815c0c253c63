use Rattle.widget_boxes.proofs.ApartTitleLemmas.{box-apart}
use Rattle.widget_boxes.proofs.laws.titles_leave_areas_apart.Goals as goal

pub returns : goal.returns
returns c = box-apart
