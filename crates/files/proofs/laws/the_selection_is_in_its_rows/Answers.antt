use Rattle.files.proofs.LawLemmas.{placed-first, placed-next, scrolled_list-little}
use Rattle.files.proofs.laws.the_selection_is_in_its_rows.Goals as goal

pub returns-clause-first : goal.returns-clause-first
returns-clause-first c = placed-first

pub returns-clause-next : goal.returns-clause-next
returns-clause-next c = placed-next

pub returns-clause-little : goal.returns-clause-little
returns-clause-little c = scrolled_list-little
