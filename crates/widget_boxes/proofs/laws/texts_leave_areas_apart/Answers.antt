use Rattle.widget_boxes.proofs.ApartLemmas.{line-apart, text-apart}
use Rattle.widget_boxes.proofs.laws.texts_leave_areas_apart.Goals as goal

pub returns-clause-line : goal.returns-clause-line
returns-clause-line c = line-apart

pub returns-clause-text : goal.returns-clause-text
returns-clause-text c = text-apart
