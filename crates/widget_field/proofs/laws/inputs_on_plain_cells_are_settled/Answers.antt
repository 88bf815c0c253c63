use Rattle.widget_field.proofs.PlainLemmas.{input-settled}
use Rattle.widget_field.proofs.laws.inputs_on_plain_cells_are_settled.Goals as goal

pub returns : goal.returns
returns c = input-settled
