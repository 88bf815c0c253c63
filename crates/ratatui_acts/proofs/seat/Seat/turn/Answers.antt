use Rattle.std.proofs.Common.{refl}
use Rattle.ratatui_acts.specs.Seats.{seated}
use Rattle.ratatui_acts.proofs.TurnLemmas.{heard-turn, heard-stops, done-turn, done-refused}
use Rattle.ratatui_acts.proofs.seat.Seat.turn.Goals as goal

pub returns-in-None-clause-turns : goal.returns-in-None-clause-turns
returns-in-None-clause-turns g c =
    let none = c.in-None.ensures.none refl in
    heard-turn g.A.Acts g.H.Hears.gives g.H.Hears.fails g.O.Outside.answers c.hear.result (seated c.args.self.now)
    c.args.ears.now c.args.outside.now (seated c.hear.new.self) c.hear.new.ears c.ask.new.outside none.0 none.1
    c.hear.ensures.heard

pub returns-in-None-clause-stops : goal.returns-in-None-clause-stops
returns-in-None-clause-stops g c =
    let none = c.in-None.ensures.none refl in
    heard-stops g.A.Acts g.H.Hears.gives g.H.Hears.fails g.O.Outside.answers c.hear.result (seated c.args.self.now)
    c.args.ears.now c.args.outside.now (seated c.hear.new.self) c.hear.new.ears c.ask.new.outside none.0 none.1
    c.hear.ensures.stops

pub returns-in-Ok-clause-turns : goal.returns-in-Ok-clause-turns
returns-in-Ok-clause-turns g c =
    done-turn g.A.Acts g.H.Hears.gives g.H.Hears.fails g.O.Outside.answers c.in-Some-Ok.answer
    (seated c.args.self.now) c.args.ears.now c.args.outside.now c.in-Ok.told (seated c.answered.new.self)
    c.ask.new.outside (rw c.in-Some-Ok.field-0-is at c.in-Some-Ok.ensures.some) c.in-Ok.ensures.ok c.in-Ok.ensures.tells

pub returns-in-Err-clause-stops : goal.returns-in-Err-clause-stops
returns-in-Err-clause-stops g c =
    done-refused g.A.Acts g.H.Hears.gives g.H.Hears.fails g.O.Outside.answers c.in-Some-Ok.answer
    (seated c.args.self.now) c.args.ears.now c.args.outside.now (seated c.answered.new.self)
    c.ask.new.outside (rw c.in-Some-Ok.field-0-is at c.in-Some-Ok.ensures.some) c.in-Err.ensures.refused
