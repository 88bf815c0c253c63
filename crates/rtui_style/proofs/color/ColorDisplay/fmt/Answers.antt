use Rattle.std.proofs.Common.{rules, arith}
use Rattle.rtui_style.proofs.Printing.{color_text-rgb}
use Rattle.rtui_style.proofs.color.ColorDisplay.fmt.Goals as goal

pub returns-in-Rgb-clause-writes : goal.returns-in-Rgb-clause-writes
returns-in-Rgb-clause-writes g c =
    rw (color_text-rgb c.args.self.now c.in-Rgb.red c.in-Rgb.green c.in-Rgb.blue c.in-Rgb.is (omega arith) (omega arith)
    (omega arith)) (search rules)
