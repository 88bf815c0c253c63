use Rattle.std.proofs.Common.{OnOk, subst}
use Rattle.pager.specs.Pages.{PaintsLineAt}
use Rattle.pager.proofs.pager.Pager.paint_text_row.Goals as goal

pub returns-in-Some-clause-ok : goal.returns-in-Some-clause-ok
returns-in-Some-clause-ok c =
    subst (λ o. OnOk c.paint_text_line.result (PaintsLineAt o c.args.self.now c.args.place c.args.part c.args.y c.args.buf.now
    c.paint_text_line.new.buf)) c.in-Some.ensures c.paint_text_line.ensures.ok
