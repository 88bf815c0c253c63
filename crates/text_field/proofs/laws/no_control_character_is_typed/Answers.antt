use Rattle.text_field.proofs.LawLemmas.{typed-plain}
use Rattle.text_field.proofs.laws.no_control_character_is_typed.Goals as goal

pub returns : goal.returns
returns c = typed-plain
