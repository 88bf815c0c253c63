use Rattle.ratatui_acts.specs.Seats.{seated}
use Rattle.ratatui_app.proofs.WholeLemmas.{runs-whole, stops-whole}
use Rattle.ratatui_app.proofs.whole.run_over.Goals as goal

pub returns-in-Ok-clause-runs : goal.returns-in-Ok-clause-runs
returns-in-Ok-clause-runs g c =
    runs-whole g.A.Acts g.A.Application.paints g.A.Application.is_short g.A.Application.cursor g.H.Hears.gives g.H.Hears.fails g.O.Outside.answers
    c.args.viewport c.args.backend c.run-ended.result c.args.has_ticks c.in_ok-glass.glass.terminal c.in_ok-glass.glass
    c.run-ended.new.glass c.into_terminal.result _ (seated c.args.seat.now) (seated c.run-ended.new.seat)
    c.args.ears.now c.run-ended.new.ears c.args.outside.now c.run-ended.new.outside
    c.in_ok-glass.ensures.begins c.in_ok-glass.ensures.asked c.into_terminal.ensures c.in-Ok.ensures c.run-ended.ensures.runs

pub returns-in-Ok-clause-stops : goal.returns-in-Ok-clause-stops
returns-in-Ok-clause-stops g c =
    stops-whole g.A.Acts g.A.Application.paints g.A.Application.is_short g.A.Application.cursor g.H.Hears.gives g.H.Hears.fails g.O.Outside.answers
    c.args.viewport c.args.backend c.run-ended.result c.in_ok-glass.glass.terminal c.in_ok-glass.glass
    c.run-ended.new.glass c.into_terminal.result _ (seated c.args.seat.now) (seated c.run-ended.new.seat)
    c.args.ears.now c.run-ended.new.ears c.args.outside.now c.run-ended.new.outside
    c.in_ok-glass.ensures.begins c.in_ok-glass.ensures.ready c.in_ok-glass.ensures.asked c.into_terminal.ensures c.in-Ok.ensures c.run-ended.ensures.stops
