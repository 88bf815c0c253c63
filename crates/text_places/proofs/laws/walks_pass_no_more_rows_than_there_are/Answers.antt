use Rattle.text_places.proofs.LineLemmas.{after-row, before-row}
use Rattle.text_places.proofs.laws.walks_pass_no_more_rows_than_there_are.Goals as goal

pub returns-clause-further : goal.returns-clause-further
returns-clause-further c = λ rows most n q each. after-row rows most each n q

pub returns-clause-back : goal.returns-clause-back
returns-clause-back c = λ rows most n q each. before-row rows most each n q
