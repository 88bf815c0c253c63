use Rattle.std.proofs.Common.{arith}
use Rattle.std.proofs.lemmas.List.{drop_all}
use Rattle.widget_big_text.proofs.ChangeLemmas.{Changes-no_row}
use Rattle.widget_big_text.proofs.LetterLemmas.{lines-step, lines-end}
use Rattle.widget_big_text.proofs.big_text.BigText.draw_lines.Goals as goal

pub returns-then-rest-eq0-clause-ok : goal.returns-then-rest-eq0-clause-ok
returns-then-rest-eq0-clause-ok c =
    c.loop-line.invariant c.loop-line.buf (Changes-no_row c.loop-line.rest _ c.loop-line.buf (omega (arith, c.if-rest-eq0.true)))

pub loop-line-preserved : goal.loop-line-preserved
loop-line-preserved c =
    λ new others. c.loop-line.invariant new (lines-step c.args.self.now c.loop-line.line-index c.letter_rows-rows.result
    c.line-item.result c.loop-line.rest c.of.result c.of-rest.result c.loop-line.buf c.draw_line.new.buf new
    (omega arith) (rw c.as_slice-line-items.ensures.value at c.line-item.is) c.letter_rows-rows.ensures c.of.ensures
    c.of-rest.ensures c.in_ok-draw_line.ensures.ok others)

pub returns-clause-ok : goal.returns-clause-ok
returns-clause-ok c =
    let none = drop_all c.loop-line.line-index c.args.self.now.lines.items (omega arith) in
    c.loop-line.invariant c.loop-line.buf (rw none (lines-end c.args.self.now c.loop-line.rest c.loop-line.buf))
