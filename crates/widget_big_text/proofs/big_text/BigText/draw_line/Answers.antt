use Rattle.rtui_widgets.proofs.ChangeLemmas.{on-ok}
use Rattle.widget_big_text.proofs.LetterLemmas.{line-at}
use Rattle.widget_big_text.proofs.big_text.BigText.draw_line.Goals as goal

pub returns-clause-ok : goal.returns-clause-ok
returns-clause-ok c =
    on-ok c.draw_letters.result (line-at c.args.self.now c.args.line.now c.line_start-start.result c.args.area c.of.result
    c.args.buf.now c.draw_letters.new.buf c.line_start-start.ensures c.of.ensures) c.draw_letters.ensures.ok
