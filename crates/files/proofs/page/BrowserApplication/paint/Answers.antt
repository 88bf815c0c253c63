use Rattle.ratatui_core.proofs.{BufferLemmas.settled-plain, BufferLemmas.within-same, WidgetLemmas.OnPart-none}
use Rattle.files.specs.Pages.{PaintsAllRows}
use Rattle.files.proofs.PaintLemmas.{browser-ok, err-within}
use Rattle.files.proofs.page.BrowserApplication.paint.Goals as goal

pub returns-in_default-clause-ok : goal.returns-in_default-clause-ok
returns-in_default-clause-ok c = record {
  within = within-same c.args.area c.args.buf.now;
  page = OnPart-none (PaintsAllRows c.args.self.now) c.args.area c.args.buf.now c.in_default.ensures;
  settled = λ edges plain. settled-plain c.args.buf.now edges plain;
}

pub returns-clause-ok : goal.returns-clause-ok
returns-clause-ok c =
    browser-ok c.paint_rows.result c.args.self.now c.args.area c.in-Some.part c.args.buf.now c.paint_rows.new.buf c.in-Some.ensures
    c.paint_rows.ensures.within c.paint_rows.ensures.ok c.paint_rows.ensures.ready

pub returns-clause-err : goal.returns-clause-err
returns-clause-err c = err-within c.paint_rows.result c.args.area c.in-Some.part c.args.buf.now c.paint_rows.new.buf
    c.in-Some.ensures c.paint_rows.ensures.within
