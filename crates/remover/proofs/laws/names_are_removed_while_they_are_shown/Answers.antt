use Rattle.remover.proofs.RemoverLemmas.{run-named}
use Rattle.remover.proofs.laws.names_are_removed_while_they_are_shown.Goals as goal

pub returns : goal.returns
returns g c = run-named g.H.Hears.gives g.H.Hears.fails g.O.Outside.answers
