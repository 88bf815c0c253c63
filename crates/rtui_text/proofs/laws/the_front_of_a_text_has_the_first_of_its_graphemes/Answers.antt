use Rattle.rtui_text.proofs.FrontLemmas.{graphemes-first, graphemes-taken}
use Rattle.rtui_text.proofs.laws.the_front_of_a_text_has_the_first_of_its_graphemes.Goals as goal

pub returns-clause-joined : goal.returns-clause-joined
returns-clause-joined c = graphemes-first

pub returns-clause-bytes : goal.returns-clause-bytes
returns-clause-bytes c = graphemes-taken
