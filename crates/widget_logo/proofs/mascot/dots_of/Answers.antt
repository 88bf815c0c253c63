use Rattle.std.proofs.Common.{[], sym, arith}
use Rattle.std.proofs.lemmas.List.{get_or_default, get_or_past}
use Rattle.widget_logo.specs.declared.mascot.TheConstants.{DOTS}
use Rattle.widget_logo.proofs.mascot.dots_of.Goals as goal

pub returns-then-y-lt32 : goal.returns-then-y-lt32
returns-then-y-lt32 c = get_or_default DOTS c.args.y [] [] (omega (arith, c.if-y-lt32.true))

pub returns-else-y-lt32 : goal.returns-else-y-lt32
returns-else-y-lt32 c = sym (get_or_past DOTS c.args.y [] (omega (arith, c.if-y-lt32.false)))
