use Rattle.text_area.proofs.LawLemmas.{undone-change, undone-both, future-changed}
use Rattle.text_area.proofs.laws.undoing_gives_what_was.Goals as goal

pub returns-clause-text : goal.returns-clause-text
returns-clause-text c = undone-change

pub returns-clause-future : goal.returns-clause-future
returns-clause-future c = future-changed

pub returns-clause-together : goal.returns-clause-together
returns-clause-together c = undone-both
