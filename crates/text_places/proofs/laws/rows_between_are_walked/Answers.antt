use Rattle.text_places.proofs.WalkLemmas.{walked}
use Rattle.text_places.proofs.laws.rows_between_are_walked.Goals as goal

pub returns : goal.returns
returns c = walked
