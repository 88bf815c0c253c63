use Rattle.pager.proofs.GrowLemmas.{run-lines}
use Rattle.pager.proofs.laws.the_lines_are_those_of_the_pieces.Goals as goal

pub returns : goal.returns
returns g c = run-lines g.S.Source.coming g.O.Outside.answers
