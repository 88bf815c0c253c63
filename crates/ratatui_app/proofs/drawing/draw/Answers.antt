use Rattle.ratatui_app.proofs.FrameLemmas.{sized-rest, draws-sized, refuses-sized, sizes-ok}
use Rattle.ratatui_app.proofs.drawing.draw.Goals as goal

pub returns-in-Ok-clause-draws : goal.returns-in-Ok-clause-draws
returns-in-Ok-clause-draws g c =
    draws-sized g.B.Backend c.args.terminal.now c.autoresize.new.self c.draw_sized.new.terminal c.draw_sized.result
    c.in-Ok.ensures.outcome c.draw_sized.ensures.draws

pub returns-in-Ok-clause-shows : goal.returns-in-Ok-clause-shows
returns-in-Ok-clause-shows g c = λ may.
    c.draw_sized.ensures.shows (sized-rest g.B.Backend c.calls_leave_a_terminal_at_rest.ensures.resized
    c.args.terminal.now c.autoresize.new.self may c.in-Ok.ensures.outcome)

pub returns-in-Ok-clause-size : goal.returns-in-Ok-clause-size
returns-in-Ok-clause-size g c = λ may.
    sizes-ok g.B.Backend c.args.terminal.now c.autoresize.new.self c.draw_sized.new.terminal c.draw_sized.result
    c.in-Ok.ensures.outcome (c.draw_sized.ensures.size (sized-rest g.B.Backend
    c.calls_leave_a_terminal_at_rest.ensures.resized c.args.terminal.now c.autoresize.new.self may c.in-Ok.ensures.outcome))

pub returns-in-Ok-clause-refused : goal.returns-in-Ok-clause-refused
returns-in-Ok-clause-refused g c =
    refuses-sized g.B.Backend _ _ _ c.args.terminal.now c.autoresize.new.self c.draw_sized.new.terminal
    c.draw_sized.result c.in-Ok.ensures.outcome c.draw_sized.ensures.refused
