use Rattle.std.proofs.Common.{rules, subst}
use Rattle.ratatui_core.specs.Terminal.{DrawsFrame}
use Rattle.ratatui_ansi.proofs.checked.draw_settled.Goals as goal

pub returns-clause-drawn : goal.returns-clause-drawn
returns-clause-drawn g c = subst (DrawsFrame g.B.Backend.screen c.args.terminal.now)
    (search rules) c.in_ok-frame.ensures.drawn.draws
