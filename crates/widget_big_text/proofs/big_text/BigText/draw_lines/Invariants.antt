use Rattle.std.proofs.Common.{drop}
use Rattle.widget_big_text.specs.BigTexts.{lines_cell, big_cell}
use Rattle.widget_big_text.proofs.ChangeLemmas.{FinishesEach}
use Rattle.widget_big_text.proofs.big_text.BigText.draw_lines.Given as goal

-- what is left is to be drawn where it begins
abbrev pub invariant-loop-line : goal.invariant-loop-line
invariant-loop-line l =
    FinishesEach l.rest (lines_cell l.fn.self (drop l.line-index l.fn.self.lines.items) l.rest) l.fn.area
    (big_cell l.fn.self l.fn.area) l.fn.buf l.buf
