use Rattle.files.proofs.LawLemmas.{helping-asks}
use Rattle.files.proofs.laws.nothing_is_asked_while_the_keys_are_shown.Goals as goal

pub returns : goal.returns
returns c = helping-asks
