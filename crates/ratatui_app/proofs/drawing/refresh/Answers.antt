use Rattle.ratatui_app.proofs.FrameLemmas.{moves-told, stops-frame}
use Rattle.ratatui_app.proofs.drawing.refresh.Goals as goal

pub returns-in-Ok-clause-moves : goal.returns-in-Ok-clause-moves
returns-in-Ok-clause-moves g c = λ rests.
    let readies = c.in-Ok.ensures.readies rests in
    moves-told g.B.Backend c.args.told c.in-Ok.is_new c.args.terminal.now c.ready.new.terminal c.draw_if.new.terminal
    c.draw_if.result readies c.draw_if.ensures.drawn c.draw_if.ensures.kept
    (c.draw_if.ensures.size readies.may) c.draw_if.ensures.faults

pub returns-in-Ok-clause-stops : goal.returns-in-Ok-clause-stops
returns-in-Ok-clause-stops g c = λ rests.
    stops-frame g.B.Backend _ _ _ c.args.told c.in-Ok.is_new c.args.terminal.now c.ready.new.terminal
    c.draw_if.new.terminal c.draw_if.result (c.in-Ok.ensures.readies rests) c.draw_if.ensures.refused
