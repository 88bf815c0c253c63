use Rattle.std.proofs.Common.{inr, refl}
use Rattle.ratatui_acts.proofs.TakingLemmas.{lacks-places}
use Rattle.ratatui_acts.specs.Seats.{seated}
use Rattle.ratatui_acts.proofs.seat.Seat.came.Goals as goal

pub returns-in-Err-clause-refused : goal.returns-in-Err-clause-refused
returns-in-Err-clause-refused g c =
    inr (inr (lacks-places g.A.Acts (seated c.args.self.now) c.args.bytes.now c.args.passed (record {
      decoder = c.add.new.decoder;
      left = c.add.new.self;
      state = c.args.self.now.state;
    }) c.requires c.in-Err.ensures.full c.in-Err.ensures.refused refl))
