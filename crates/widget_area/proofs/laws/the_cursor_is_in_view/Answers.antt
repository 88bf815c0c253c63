use Rattle.std.proofs.Common.{arith}
use Rattle.widget_area.proofs.laws.the_cursor_is_in_view.Goals as goal

pub returns-clause-before : goal.returns-clause-before
returns-clause-before c = λ first place room. omega arith

pub returns-clause-within : goal.returns-clause-within
returns-clause-within c = λ first place room some. omega (arith, some)
