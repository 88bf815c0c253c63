use Rattle.std.proofs.Common.{inl, inr, ◌∙◌}
use Rattle.ratatui_app.proofs.WholeLemmas.{shows-asked, glass-shows}
use Rattle.ratatui_app.proofs.on_glass.OnGlassGlass.show.Goals as goal

pub returns-in-Err-clause-lacks : goal.returns-in-Err-clause-lacks
returns-in-Err-clause-lacks g c = λ ready. inl (c.in-Err.ensures.stops ready.rest)

pub returns-in-Err-note-clause-lacks : goal.returns-in-Err-note-clause-lacks
returns-in-Err-note-clause-lacks g c = λ ready.
    inr (record {
      fault = tt;
      shown = c.refresh.new.terminal;
      moved = c.in-Ok.ensures.moves ready.rest;
      only = c.in-Err-note.ensures.only;
    })

pub returns-clause-shows : goal.returns-clause-shows
returns-clause-shows g c = λ ready shown.
    let frame = c.in-Ok.ensures.shows ready.rest (λ same. glass-shows _ _ c.args.self.now.terminal (shown same)) in
    c.shown_states_are_on_the_glass.ensures c.args.state.now
    (shows-asked _ _ c.refresh.new.terminal c.note.new.self.terminal c.in-Ok-note.ensures.asked
    (c.in-Ok-note.ensures.flushed frame.flushed) frame)
    (c.in-Ok-note.ensures.faults ∙ (c.in-Ok.ensures.moves ready.rest).faults ∙ ready.unfailed)

pub returns-clause-moves : goal.returns-clause-moves
returns-clause-moves g c = λ ready. record {
  shown = c.refresh.new.terminal;
  moved = c.in-Ok.ensures.moves ready.rest;
  asked = c.in-Ok-note.ensures.asked;
  faults = c.in-Ok-note.ensures.faults;
}
