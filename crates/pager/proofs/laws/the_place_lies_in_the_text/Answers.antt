use Rattle.pager.proofs.PlaceLemmas.{first, next}
use Rattle.pager.proofs.laws.the_place_lies_in_the_text.Goals as goal

pub returns : goal.returns
returns c = record { first = first; next = next }
