use Rattle.widget_tree.proofs.NarrowTreeLemmas.{tree-plain}
use Rattle.widget_tree.proofs.laws.trees_keep_cells_plain.Goals as goal

pub returns : goal.returns
returns c = tree-plain
