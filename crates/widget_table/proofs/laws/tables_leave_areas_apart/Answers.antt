use Rattle.widget_table.proofs.ApartTableLemmas.{table-apart}
use Rattle.widget_table.proofs.laws.tables_leave_areas_apart.Goals as goal

pub returns : goal.returns
returns c = table-apart
