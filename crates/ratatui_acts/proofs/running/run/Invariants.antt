use Rattle.ratatui_acts.specs.{Seats.seated}
use Rattle.ratatui_acts.proofs.RunLemmas.{RunsOn}
use Rattle.ratatui_acts.proofs.running.run.Given as goal

-- a run up to here
abbrev pub invariant-loop : goal.invariant-loop
invariant-loop g l =
    RunsOn (record {
      rules = g.A.Acts;
      shows = g.G.Glass.shows;
      moves = g.G.Glass.moves;
      lacks = g.G.Glass.lacks;
      gives = g.H.Hears.gives;
      fails = g.H.Hears.fails;
      answers = g.O.Outside.answers;
    }) l.fn.has_ticks
    (record { standing = seated l.fn.seat; glass = l.fn.glass; ears = l.fn.ears; outside = l.fn.outside })
    (record { standing = seated l.seat; glass = l.glass; ears = l.ears; outside = l.outside }) l.is_used_up
