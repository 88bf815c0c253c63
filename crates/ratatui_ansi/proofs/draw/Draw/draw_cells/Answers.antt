use Rattle.ratatui_ansi.proofs.{FrameLemmas.draw-sends, RefusalLemmas.if-error, RefusalLemmas.stops-draw}
use Rattle.ansi_model.proofs.PlaceLemmas.{places-sgr, places-on-then, places-each}
use Rattle.ratatui_ansi.proofs.draw.Draw.draw_cells.Goals as goal

pub returns-clause-drawn : goal.returns-clause-drawn
returns-clause-drawn g c =
    let drawn = c.in_ok-draw_all.ensures.drawn in (
      drawn.0,
      drawn.1,
      record {
        sends = draw-sends c.args.self.now c.draw_all.new.self _ _ c.requires.begins c.draw_all.ensures.keeps drawn.2.sends
            c.in_ok-change_sgr.ensures.changes;
        sendable = drawn.2.sendable;
      },
    )

pub returns-in_err-draw_all-clause-refused : goal.returns-in_err-draw_all-clause-refused
returns-in_err-draw_all-clause-refused g c =
    if-error _ _ _ c.from_residual.ensures
    (λ named. stops-draw _ _ _ _ _ c.requires.begins c.in_err-draw_all.ensures.refused)

pub returns-clause-placed : goal.returns-clause-placed
returns-clause-placed g c = places-each _ _ c.requires.begins.place (places-on-then c.in_ok-draw_all.ensures.drawn.2.places
    (places-sgr c.draw_all.new.self.state.pen _ _ _ c.in_ok-change_sgr.ensures.changes))
