use Rattle.std.proofs.Common.{refl}
use Rattle.files.specs.Moves.{browsed_after}
use Rattle.files.proofs.browser.BrowserActs.update.Goals as goal

pub returns-in_ok-hear-in-Event-clause-ok : goal.returns-in_ok-hear-in-Event-clause-ok
unfolding browsed_after
returns-in_ok-hear-in-Event-clause-ok c = rw c.in-Event.is c.in_ok-hear-in-Event.ensures.ok

pub returns-in-Tick-clause-ok : goal.returns-in-Tick-clause-ok
unfolding browsed_after
returns-in-Tick-clause-ok c = rw c.in-Tick.is refl

pub returns-in_ok-take_outcome-in-Answer-clause-ok : goal.returns-in_ok-take_outcome-in-Answer-clause-ok
unfolding browsed_after
returns-in_ok-take_outcome-in-Answer-clause-ok c = rw c.in-Answer.is c.in_ok-take_outcome-in-Answer.ensures.ok
