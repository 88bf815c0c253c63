use Rattle.pager.proofs.FollowLemmas.{rests-then}
use Rattle.pager.proofs.laws.keys_are_read_while_the_text_rests.Goals as goal

pub returns : goal.returns
returns c = rests-then
