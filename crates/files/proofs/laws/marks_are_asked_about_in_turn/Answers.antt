use Rattle.files.proofs.SeriesLemmas.{removes-first, trashes-first, asks-next, asks-marked}
use Rattle.files.proofs.laws.marks_are_asked_about_in_turn.Goals as goal

pub returns-clause-removed : goal.returns-clause-removed
returns-clause-removed c = removes-first

pub returns-clause-trashed : goal.returns-clause-trashed
returns-clause-trashed c = trashes-first

pub returns-clause-next : goal.returns-clause-next
returns-clause-next c = asks-next

pub returns-clause-marked : goal.returns-clause-marked
returns-clause-marked c = asks-marked
