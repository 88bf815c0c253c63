use Rattle.files.proofs.GoingLemmas.{completed-typed, completion-fronts, completing-waits, completed-dropped}
use Rattle.files.proofs.laws.completions_go_on_with_what_is_typed.Goals as goal

pub returns-clause-typed : goal.returns-clause-typed
returns-clause-typed c = completed-typed

pub returns-clause-each : goal.returns-clause-each
returns-clause-each c = completion-fronts

pub returns-clause-waits : goal.returns-clause-waits
returns-clause-waits c = completing-waits

pub returns-clause-dropped : goal.returns-clause-dropped
returns-clause-dropped c = completed-dropped
