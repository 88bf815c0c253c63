use Rattle.pager.proofs.LinesLemmas.{whole-lines}
use Rattle.pager.proofs.laws.lines_of_pieces_are_those_of_the_text.Goals as goal

pub returns : goal.returns
returns c = whole-lines
