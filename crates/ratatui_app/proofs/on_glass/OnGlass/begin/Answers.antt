use Rattle.ratatui_app.proofs.WholeLemmas.{begun-ready}
use Rattle.ratatui_app.proofs.on_glass.OnGlass.begin.Goals as goal

pub returns-in-Ok-clause-ready : goal.returns-in-Ok-clause-ready
returns-in-Ok-clause-ready g c =
    begun-ready c.args.viewport c.args.backend c.in-Ok.terminal
    (λ b. c.calls_leave_a_terminal_at_rest.ensures.started c.args.viewport b c.in-Ok.terminal)
    c.in-Ok.ensures.begins c.requires.free c.requires.fits c.requires.blank c.requires.unfailed
