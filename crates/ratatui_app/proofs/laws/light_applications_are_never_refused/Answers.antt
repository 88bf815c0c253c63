use Rattle.ratatui_app.proofs.LightLemmas.{other-refused}
use Rattle.ratatui_app.proofs.laws.light_applications_are_never_refused.Goals as goal

pub returns-clause-messages : goal.returns-clause-messages
returns-clause-messages g c = λ none. c.light_messages_are_never_refused.ensures none.light

pub returns-clause-frames : goal.returns-clause-frames
returns-clause-frames g c =
    other-refused g.A.Acts g.A.Application.paints g.A.Application.is_short g.A.Application.cursor g.H.Hears.gives
    g.H.Hears.fails g.O.Outside.answers c.calls_leave_a_terminal_at_rest.ensures.resized
