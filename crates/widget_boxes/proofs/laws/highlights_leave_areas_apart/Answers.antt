use Rattle.widget_boxes.proofs.ApartLemmas.{lit-apart}
use Rattle.widget_boxes.proofs.laws.highlights_leave_areas_apart.Goals as goal

pub returns : goal.returns
returns c = λ style area old new apart is. lit-apart style area old new is apart
