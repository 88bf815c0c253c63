use Rattle.files.proofs.CountLemmas.{asked-counted, counted-listed, count-told, counts-what-is-marked, counted-glances}
use Rattle.files.proofs.LawLemmas.{counted-folder}
use Rattle.files.proofs.laws.folders_are_counted_before_they_are_asked_about.Goals as goal

pub returns-clause-asked : goal.returns-clause-asked
returns-clause-asked g c = asked-counted

pub returns-clause-listed : goal.returns-clause-listed
returns-clause-listed g c = λ b files after n. counted-listed g.P.Performs.does b files after n

pub returns-clause-told : goal.returns-clause-told
returns-clause-told g c = count-told

pub returns-clause-marked : goal.returns-clause-marked
returns-clause-marked g c = counts-what-is-marked

pub returns-clause-kept : goal.returns-clause-kept
returns-clause-kept g c = counted-folder

pub returns-clause-seen : goal.returns-clause-seen
returns-clause-seen g c = counted-glances
