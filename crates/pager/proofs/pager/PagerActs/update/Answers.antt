use Rattle.std.proofs.Common.{refl}
use Rattle.pager.specs.Paging.{paged_after}
use Rattle.pager.proofs.pager.PagerActs.update.Goals as goal

pub returns-in_ok-hear-in-Event-clause-ok : goal.returns-in_ok-hear-in-Event-clause-ok
unfolding paged_after
returns-in_ok-hear-in-Event-clause-ok c = rw c.in-Event.is c.in_ok-hear-in-Event.ensures.ok

pub returns-in-Tick-clause-ok : goal.returns-in-Tick-clause-ok
unfolding paged_after
returns-in-Tick-clause-ok c = rw c.in-Tick.is refl

pub returns-in-Answer-clause-ok : goal.returns-in-Answer-clause-ok
unfolding paged_after
returns-in-Answer-clause-ok c = rw c.in-Answer.is refl
