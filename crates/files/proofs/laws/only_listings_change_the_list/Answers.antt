use Rattle.std.proofs.Common.{refl}
use Rattle.files.specs.Moves.{browsed_after}
use Rattle.files.proofs.LawLemmas.{event-folder, done-folder, completed-folder, failed-folder}
use Rattle.files.proofs.laws.only_listings_change_the_list.Goals as goal

pub returns-clause-listed : goal.returns-clause-listed
unfolding browsed_after
returns-clause-listed c = λ b l. (refl, refl, refl)

pub returns-clause-event : goal.returns-clause-event
returns-clause-event c = event-folder

pub returns-clause-tick : goal.returns-clause-tick
unfolding browsed_after
returns-clause-tick c = λ b passed. record { folder = refl; list = refl; unnamed = refl }

pub returns-clause-done : goal.returns-clause-done
returns-clause-done c = done-folder

pub returns-clause-completed : goal.returns-clause-completed
returns-clause-completed c = completed-folder

pub returns-clause-failed : goal.returns-clause-failed
returns-clause-failed c = failed-folder

pub returns-clause-seen : goal.returns-clause-seen
unfolding browsed_after
returns-clause-seen c = λ b g. record { folder = refl; list = refl; unnamed = refl }
