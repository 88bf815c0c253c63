use Rattle.std.proofs.Common.{arith}
use Rattle.widget_area.proofs.laws.the_view_moves_no_further_than_it_must.Goals as goal

pub returns-clause-left : goal.returns-clause-left
returns-clause-left c = λ first place room lt. omega (arith, lt)

pub returns-clause-right : goal.returns-clause-right
returns-clause-right c = λ first place room lt. omega (arith, lt)
