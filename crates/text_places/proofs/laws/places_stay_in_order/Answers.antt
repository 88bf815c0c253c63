use Rattle.text_places.proofs.WalkLemmas.{ordered}
use Rattle.text_places.proofs.laws.places_stay_in_order.Goals as goal

pub returns : goal.returns
returns c = ordered
