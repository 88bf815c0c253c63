use Rattle.text_field.proofs.HistoryLemmas.{undone-edit}
use Rattle.text_field.proofs.laws.undoing_gives_what_was.Goals as goal

pub returns : goal.returns
returns c = undone-edit
