use Rattle.rtui_text.proofs.RestLemmas.{graphemes-rest, graphemes-dropped}
use Rattle.rtui_text.proofs.laws.the_rest_of_a_text_has_the_rest_of_its_graphemes.Goals as goal

pub returns-clause-joined : goal.returns-clause-joined
returns-clause-joined c = graphemes-rest

pub returns-clause-bytes : goal.returns-clause-bytes
returns-clause-bytes c = graphemes-dropped
