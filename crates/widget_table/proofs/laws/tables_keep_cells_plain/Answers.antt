use Rattle.widget_table.proofs.NarrowTableLemmas.{table-keeps}
use Rattle.widget_table.proofs.laws.tables_keep_cells_plain.Goals as goal

pub returns : goal.returns
returns c = table-keeps
