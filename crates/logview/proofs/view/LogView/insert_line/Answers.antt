use Rattle.std.proofs.Common.{rules}
use Rattle.ratatui_core.proofs.TerminalLemmas.{inserts-row-if, over-takes}
use Rattle.logview.proofs.ViewLemmas.{inserts-below-if, inserts-most-if, refuses-line-if}
use Rattle.logview.proofs.view.LogView.insert_line.Goals as goal

pub returns-clause-ok : goal.returns-clause-ok
returns-clause-ok g c = λ is.
    inserts-row-if g.B.Backend.screen g.B.Backend.stops_at c.args.line.now _ _ _ c.insert_before.result is
    (λ sheet fills. record { before = fills.before; empty = fills.new_buffer.empty; renders = λ has. search rules })
    (c.insert_before.ensures.outcome (over-takes g.B.Backend.screen _ is).inline)

pub returns-clause-kept : goal.returns-clause-kept
returns-clause-kept g c = λ is.
    inserts-below-if g.B.Backend.screen g.B.Backend.stops_at c.args.line.now c.args.self.now _ _ c.insert_before.result is
    (λ sheet fills. record { before = fills.before; empty = fills.new_buffer.empty; renders = λ has. search rules })
    (c.insert_before.ensures.outcome (over-takes g.B.Backend.screen _ is).inline)

pub returns-clause-most : goal.returns-clause-most
returns-clause-most g c = λ is.
    inserts-most-if g.B.Backend.screen g.B.Backend.stops_at c.args.line.now c.args.self.now.terminal _ _ c.insert_before.result is
    (λ sheet fills. record { before = fills.before; empty = fills.new_buffer.empty; renders = λ has. search rules })
    (c.insert_before.ensures.outcome (over-takes g.B.Backend.screen _ is).inline)

pub returns-clause-err : goal.returns-clause-err
returns-clause-err g c = λ is.
    refuses-line-if g.B.Backend.screen g.B.Backend.stops_at c.args.line.now c.args.self.now _ _ c.insert_before.result
    (search rules)
    (λ sheet fills. record { before = fills.before; empty = fills.new_buffer.empty; renders = λ has. search rules })
    (λ sheet fills. search rules) (c.insert_before.ensures.outcome (over-takes g.B.Backend.screen _ is).inline)
