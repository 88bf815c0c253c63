use Rattle.ratatui_core.proofs.WidgetLemmas.{within-then}
use Rattle.pager.proofs.pager.Pager.paint_page.Goals as goal

pub returns-clause-within : goal.returns-clause-within
returns-clause-within c = within-then c.args.part c.args.buf.now c.paint_rows.new.buf c.paint_status.new.buf
    c.paint_rows.ensures.within c.paint_status.ensures.within
