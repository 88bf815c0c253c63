use Rattle.widget_list.proofs.NarrowListLemmas.{list-plain}
use Rattle.widget_list.proofs.laws.lists_keep_cells_plain.Goals as goal

pub returns : goal.returns
returns c = list-plain
