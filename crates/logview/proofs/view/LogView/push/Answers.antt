use Rattle.std.proofs.Common.{subst, sym, OnOk, arith}
use Rattle.logview.proofs.ViewLemmas.{DrawsStatus, pushed_if, refused_if}
use Rattle.logview.proofs.view.LogView.push.Goals as goal

pub returns-clause-pushed : goal.returns-clause-pushed
returns-clause-pushed g c = λ is.
    let screen = g.B.Backend.screen in
    let m = c.insert_line.new.self in
    let w = c.draw_status.new.self in
    pushed_if screen c.args.line.now c.args.self.now m w c.draw_status.result (c.in_ok-insert_line.ensures.ok is)
    (c.in_ok-insert_line.ensures.kept is) (c.in_ok-insert_line.ensures.most is)
    (λ over. subst (λ n. OnOk c.draw_status.result (DrawsStatus screen n m.terminal w.terminal))
    (sym c.draw_status.ensures.count) (c.draw_status.ensures.ok over))

pub returns-clause-refused : goal.returns-clause-refused
returns-clause-refused g c = λ is.
    refused_if g.B.Backend.screen g.B.Backend.stops_at c.args.line.now c.args.self.now c.insert_line.new.self
    c.draw_status.new.self c.draw_status.result (c.in_ok-insert_line.ensures.ok is)
    (omega (arith, c.draw_status.ensures.count, c.saturating_add-self.ensures, c.insert_line.ensures.count))
    c.draw_status.ensures.err
