use Rattle.std.proofs.Common.{refl}
use Rattle.pager.specs.Growing.{grown_after}
use Rattle.pager.proofs.growing.GrowingActs.update.Goals as goal

pub returns-in-Event-clause-ok : goal.returns-in-Event-clause-ok
unfolding grown_after
returns-in-Event-clause-ok c = rw c.in-Event.is c.take_event.ensures.ok

pub returns-in-Tick-clause-ok : goal.returns-in-Tick-clause-ok
unfolding grown_after
returns-in-Tick-clause-ok c = rw c.in-Tick.is c.tick.ensures.state

pub returns-in_ok-take_piece-in-Answer-clause-ok : goal.returns-in_ok-take_piece-in-Answer-clause-ok
unfolding grown_after
returns-in_ok-take_piece-in-Answer-clause-ok c = rw c.in-Answer.is c.in_ok-take_piece-in-Answer.ensures.ok
