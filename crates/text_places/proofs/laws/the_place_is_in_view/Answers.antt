use Rattle.text_places.proofs.WalkLemmas.{view-before, view-within}
use Rattle.text_places.proofs.laws.the_place_is_in_view.Goals as goal

pub returns-clause-before : goal.returns-clause-before
returns-clause-before c = view-before

pub returns-clause-within : goal.returns-clause-within
returns-clause-within c = view-within
