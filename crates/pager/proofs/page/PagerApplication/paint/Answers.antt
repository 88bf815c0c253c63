use Rattle.ratatui_core.proofs.{BufferLemmas.settled-plain, BufferLemmas.within-same, WidgetLemmas.OnPart-none}
use Rattle.pager.specs.Pages.{PaintsPage}
use Rattle.pager.proofs.PaintLemmas.{pager-ok, err-within}
use Rattle.pager.proofs.page.PagerApplication.paint.Goals as goal

pub returns-in_default-clause-ok : goal.returns-in_default-clause-ok
returns-in_default-clause-ok c = record {
  within = within-same c.args.area c.args.buf.now;
  page = OnPart-none (PaintsPage c.args.self.now) c.args.area c.args.buf.now c.in_default.ensures;
  settled = λ edges plain. settled-plain c.args.buf.now edges plain;
}

pub returns-clause-ok : goal.returns-clause-ok
returns-clause-ok c =
    pager-ok c.paint_page.result c.args.self.now c.args.area c.in-Some.part c.args.buf.now c.paint_page.new.buf c.in-Some.ensures
    c.paint_page.ensures.within c.paint_page.ensures.ok c.paint_page.ensures.settled

pub returns-clause-err : goal.returns-clause-err
returns-clause-err c = err-within c.paint_page.result c.args.area c.in-Some.part c.args.buf.now c.paint_page.new.buf
    c.in-Some.ensures c.paint_page.ensures.within
