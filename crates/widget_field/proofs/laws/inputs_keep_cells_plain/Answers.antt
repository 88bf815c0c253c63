use Rattle.widget_field.proofs.PlainLemmas.{input-plain}
use Rattle.widget_field.proofs.laws.inputs_keep_cells_plain.Goals as goal

pub returns : goal.returns
returns c = input-plain
