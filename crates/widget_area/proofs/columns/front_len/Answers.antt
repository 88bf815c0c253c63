use Rattle.std.proofs.Common.{arith}
use Rattle.widget_area.proofs.FrontLaws.{plain-graphemes}
use Rattle.widget_area.proofs.columns.front_len.Goals as goal

pub returns-then-is_plain-clause-graphemes : goal.returns-then-is_plain-clause-graphemes
returns-then-is_plain-clause-graphemes c =
    plain-graphemes c.args.text.now c.min.result (c.requires c.if-is_plain.true) (omega (arith, c.min.ensures))
