use Rattle.text_places.proofs.WalkLemmas.{view-back, view-further}
use Rattle.text_places.proofs.laws.the_view_moves_no_further_than_it_must.Goals as goal

pub returns-clause-back : goal.returns-clause-back
returns-clause-back c = view-back

pub returns-clause-further : goal.returns-clause-further
returns-clause-further c = view-further
