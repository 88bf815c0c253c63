use Rattle.files.proofs.AskLemmas.{run-asked}
use Rattle.files.proofs.laws.questions_are_answered_after_they_are_shown.Goals as goal

pub returns : goal.returns
returns g c = λ begun now past unsure unquiet has.
    (run-asked g.H.Hears.gives g.H.Hears.fails g.O.Outside.answers begun now past unsure unquiet has).asked
