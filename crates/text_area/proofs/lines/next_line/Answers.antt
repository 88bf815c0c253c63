use Rattle.std.proofs.Common.{arith}
use Rattle.text_area.proofs.LineLemmas.{feeds-next, begins-after}
use Rattle.text_area.proofs.lines.next_line.Goals as goal

pub returns-then-end-text-clause-next : goal.returns-then-end-text-clause-next
returns-then-end-text-clause-next c =
    let lt = c.if-end-text.true in
    let feed = c.line_end-end.ensures.stops lt in (
      begins-after c.args.text.now c.line_end-end.result c.utf8.text lt feed,
      feeds-next c.args.text.now c.args.at c.line_end-end.result c.line_end-end.ensures.value lt feed,
      omega (arith, c.line_end-end.ensures.value),
    )
