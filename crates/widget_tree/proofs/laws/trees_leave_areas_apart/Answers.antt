use Rattle.widget_tree.proofs.ApartTreeLemmas.{tree-apart}
use Rattle.widget_tree.proofs.laws.trees_leave_areas_apart.Goals as goal

pub returns : goal.returns
returns c = tree-apart
