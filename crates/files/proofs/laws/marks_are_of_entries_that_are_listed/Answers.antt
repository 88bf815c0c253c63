use Rattle.files.proofs.SeriesLemmas.{marks-first, marks-next}
use Rattle.files.proofs.laws.marks_are_of_entries_that_are_listed.Goals as goal

pub returns-clause-first : goal.returns-clause-first
returns-clause-first c = marks-first

pub returns-clause-next : goal.returns-clause-next
returns-clause-next c = marks-next
