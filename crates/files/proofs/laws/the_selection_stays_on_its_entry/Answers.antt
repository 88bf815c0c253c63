use Rattle.files.proofs.StayLemmas.{asked-shown, stays-there, order-kept}
use Rattle.files.proofs.laws.the_selection_stays_on_its_entry.Goals as goal

pub returns-clause-asked : goal.returns-clause-asked
returns-clause-asked c = asked-shown

pub returns-clause-stays : goal.returns-clause-stays
returns-clause-stays c = stays-there

pub returns-clause-sorted : goal.returns-clause-sorted
returns-clause-sorted c = order-kept
