use Rattle.ratatui_app.proofs.SizeLemmas.{turn-size}
use Rattle.ratatui_app.proofs.laws.told_sizes_are_the_screens.Goals as goal

pub returns : goal.returns
returns g c = λ before after turn is.
    turn-size c.told_sizes_have_cells.ensures g.A.Acts g.A.Application.paints g.A.Application.is_short g.A.Application.cursor g.H.Hears.gives
    g.H.Hears.fails g.O.Outside.answers before after turn is
