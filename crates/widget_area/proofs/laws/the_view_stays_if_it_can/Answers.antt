use Rattle.std.proofs.Common.{arith}
use Rattle.widget_area.proofs.laws.the_view_stays_if_it_can.Goals as goal

pub returns : goal.returns
returns c = λ first place room le lt. omega (arith, le, lt)
