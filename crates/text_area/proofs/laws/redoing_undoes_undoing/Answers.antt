use Rattle.text_area.proofs.LawLemmas.{redone-undone, undone-redone}
use Rattle.text_area.proofs.laws.redoing_undoes_undoing.Goals as goal

pub returns-clause-redone : goal.returns-clause-redone
returns-clause-redone c = redone-undone

pub returns-clause-undone : goal.returns-clause-undone
returns-clause-undone c = undone-redone
