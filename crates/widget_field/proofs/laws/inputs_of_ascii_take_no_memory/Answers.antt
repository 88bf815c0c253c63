use Rattle.widget_field.proofs.ShortLemmas.{input-short}
use Rattle.widget_field.proofs.laws.inputs_of_ascii_take_no_memory.Goals as goal

pub returns : goal.returns
returns c = input-short
