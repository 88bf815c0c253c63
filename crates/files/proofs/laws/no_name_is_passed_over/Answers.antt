use Rattle.files.proofs.FindLemmas.{next-named, next-none, previous-named, previous-none}
use Rattle.files.proofs.laws.no_name_is_passed_over.Goals as goal

pub returns-clause-next : goal.returns-clause-next
returns-clause-next c = next-named

pub returns-clause-previous : goal.returns-clause-previous
returns-clause-previous c = previous-named

pub returns-clause-none : goal.returns-clause-none
returns-clause-none c = next-none

pub returns-clause-none_before : goal.returns-clause-none_before
returns-clause-none_before c = previous-none
