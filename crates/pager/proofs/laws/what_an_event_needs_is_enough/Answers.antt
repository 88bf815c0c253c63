use Rattle.pager.proofs.NeedsLemmas.{enough}
use Rattle.pager.proofs.laws.what_an_event_needs_is_enough.Goals as goal

pub returns : goal.returns
returns c = enough
