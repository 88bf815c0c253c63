use Rattle.std.proofs.Common.{arith}
use Rattle.text_area.proofs.LineLemmas.{feeds-at_start, feeds-le}
use Rattle.text_area.proofs.KeptLemmas.{line-below}
use Rattle.text_area.proofs.lines.start_before.Goals as goal

pub returns-then-line-above-clause-value : goal.returns-then-line-above-clause-value
returns-then-line-above-clause-value c =
    line-below c.args.text.now 0 0 c.args.line c.args.line c.start_below.result
    (feeds-at_start c.args.text.now 0 (omega arith)) (omega arith)
    (omega (arith, c.requires.before, c.requires.row, feeds-le c.args.text.now c.args.at)) c.start_below.ensures.value
