use Rattle.text_places.proofs.LineLemmas.{after-same, before-same}
use Rattle.text_places.proofs.laws.walks_depend_on_their_lines.Goals as goal

pub returns-clause-further : goal.returns-clause-further
returns-clause-further c = λ rows others end n q same. after-same rows others end same n q

pub returns-clause-back : goal.returns-clause-back
returns-clause-back c = λ rows others end n q same. before-same rows others end same n q
