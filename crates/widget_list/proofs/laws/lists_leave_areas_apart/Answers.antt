use Rattle.widget_list.proofs.ApartListLemmas.{list-apart}
use Rattle.widget_list.proofs.laws.lists_leave_areas_apart.Goals as goal

pub returns : goal.returns
returns c = list-apart
