use Rattle.text_places.proofs.WalkLemmas.{view-stays}
use Rattle.text_places.proofs.laws.the_view_stays_if_it_can.Goals as goal

pub returns : goal.returns
returns c = view-stays
