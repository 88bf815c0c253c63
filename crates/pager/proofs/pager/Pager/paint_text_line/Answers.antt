use Rattle.ratatui_core.proofs.WidgetLemmas.{within-then}
use Rattle.pager.proofs.pager.Pager.paint_text_line.Goals as goal

pub returns-clause-within : goal.returns-clause-within
returns-clause-within c = within-then c.args.part c.args.buf.now c.paint_number_if.new.buf c.paint_line.new.buf
    c.paint_number_if.ensures.within c.paint_line.ensures.within
