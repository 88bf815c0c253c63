use Rattle.text_area.proofs.LawLemmas.{text-changed, cursor-changed}
use Rattle.text_area.proofs.laws.a_change_replaces_a_part.Goals as goal

pub returns-clause-text : goal.returns-clause-text
returns-clause-text c = text-changed

pub returns-clause-cursor : goal.returns-clause-cursor
returns-clause-cursor c = cursor-changed
