use Rattle.ansi_model.proofs.EndLemmas.{left-in-higher}
use Rattle.ansi_model.proofs.laws.a_higher_terminal_is_left_as_it_stands.Goals as goal

pub returns : goal.returns
returns c = λ w h high t wide some below ready. left-in-higher w h high wide some below t ready
