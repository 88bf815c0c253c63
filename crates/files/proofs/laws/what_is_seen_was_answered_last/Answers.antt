use Rattle.std.proofs.Common.{refl}
use Rattle.files.specs.Moves.{browsed_after}
use Rattle.files.proofs.GlanceLemmas.{glance-taken, glance-dropped, event-glances, done-glances, completed-glances, failed-glances}
use Rattle.files.proofs.laws.what_is_seen_was_answered_last.Goals as goal

pub returns-clause-taken : goal.returns-clause-taken
returns-clause-taken c = glance-taken

pub returns-clause-dropped : goal.returns-clause-dropped
returns-clause-dropped c = glance-dropped

pub returns-clause-event : goal.returns-clause-event
returns-clause-event c = event-glances

pub returns-clause-tick : goal.returns-clause-tick
unfolding browsed_after
returns-clause-tick c = λ b passed. refl

pub returns-clause-done : goal.returns-clause-done
returns-clause-done c = done-glances

pub returns-clause-completed : goal.returns-clause-completed
returns-clause-completed c = completed-glances

pub returns-clause-failed : goal.returns-clause-failed
returns-clause-failed c = failed-glances

pub returns-clause-listed : goal.returns-clause-listed
unfolding browsed_after
returns-clause-listed c = λ b l. refl
