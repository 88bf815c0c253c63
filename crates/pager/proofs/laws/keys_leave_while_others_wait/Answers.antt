use Rattle.pager.proofs.FollowLemmas.{leaves-now}
use Rattle.pager.proofs.laws.keys_leave_while_others_wait.Goals as goal

pub returns : goal.returns
returns c = leaves-now
