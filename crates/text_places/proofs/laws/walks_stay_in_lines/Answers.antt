use Rattle.text_places.proofs.PlaceLemmas.{after-in, before-in}
use Rattle.text_places.proofs.laws.walks_stay_in_lines.Goals as goal

pub returns-clause-further : goal.returns-clause-further
returns-clause-further c = λ rows n q have. after-in rows have n q

pub returns-clause-back : goal.returns-clause-back
returns-clause-back c = λ rows n q have. before-in rows have n q
