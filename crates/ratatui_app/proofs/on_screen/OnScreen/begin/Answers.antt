use Rattle.ratatui_app.proofs.FrameLemmas.{rests-unfixed}
use Rattle.ratatui_app.proofs.on_screen.OnScreen.begin.Goals as goal

pub returns-in-Ok-clause-ready : goal.returns-in-Ok-clause-ready
returns-in-Ok-clause-ready g c =
    rests-unfixed g.B.Backend.screen c.args.viewport c.in-Ok.terminal c.requires.free
    (c.calls_leave_a_terminal_at_rest.ensures.started c.args.viewport c.args.backend c.in-Ok.terminal c.requires.fits
    c.requires.blank c.in-Ok.ensures.starts)
