use Rattle.text_places.proofs.WalkLemmas.{back, further}
use Rattle.text_places.proofs.laws.back_and_forth.Goals as goal

pub returns-clause-back : goal.returns-clause-back
returns-clause-back c = back

pub returns-clause-further : goal.returns-clause-further
returns-clause-further c = further
