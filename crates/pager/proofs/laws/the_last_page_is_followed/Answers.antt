use Rattle.pager.proofs.FollowLemmas.{follows-end}
use Rattle.pager.proofs.laws.the_last_page_is_followed.Goals as goal

pub returns : goal.returns
returns c = follows-end
