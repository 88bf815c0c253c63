use Rattle.files.proofs.OrderLemmas.{rows-far, folders-first}
use Rattle.files.proofs.laws.rows_stand_in_order.Goals as goal

pub returns-clause-order : goal.returns-clause-order
returns-clause-order c = rows-far

pub returns-clause-folders : goal.returns-clause-folders
returns-clause-folders c = folders-first
