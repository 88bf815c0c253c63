use Rattle.std.proofs.Common.{sym, subst, ◌∙◌}
use Rattle.ratatui_acts.specs.Seats.{seated}
use Rattle.ratatui_acts.proofs.RunLemmas.{steps}
use Rattle.ratatui_acts.proofs.running.step.Goals as goal

pub returns-in-Ok-show-clause-steps : goal.returns-in-Ok-show-clause-steps
returns-in-Ok-show-clause-steps g c =
    let ready = g.met.G.Glass.shown_is_ready _ _ c.requires.shown in
    steps _ (record {
      standing = seated c.args.seat.now;
      glass = c.args.glass.now;
      ears = c.args.ears.now;
      outside = c.args.outside.now;
    }) c.in-Ok.told (seated c.turn.new.self) c.show.new.self c.turn.new.ears c.turn.new.outside
    c.requires.shown c.requires.goes_on c.in-Ok.ensures.turns
    (subst (λ s. g.G.Glass.shows c.show.new.self s) c.state.ensures (c.in-Ok-show.ensures.shows ready
    (λ same. subst (λ s. g.G.Glass.shows c.args.glass.now s)
    (sym (c.in-Ok.ensures.turns.tells.same same) ∙ sym c.state.ensures) c.requires.shown)))
    (c.in-Ok-show.ensures.moves ready) c.in-Ok-show.ensures.stays
