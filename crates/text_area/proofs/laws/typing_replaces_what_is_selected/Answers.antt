use Rattle.text_area.proofs.LawLemmas.{typed-over}
use Rattle.text_area.proofs.laws.typing_replaces_what_is_selected.Goals as goal

pub returns : goal.returns
returns c = typed-over
