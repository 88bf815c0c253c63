use Rattle.pager.proofs.OneFrameLemmas.{page-has-one-frame}
use Rattle.pager.proofs.laws.pages_have_one_frame.Goals as goal

pub returns : goal.returns
returns c = page-has-one-frame
