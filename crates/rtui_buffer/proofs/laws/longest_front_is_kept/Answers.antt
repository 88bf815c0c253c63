use Rattle.rtui_buffer.proofs.FrontLemmas.{IsLongestFront-kept}
use Rattle.rtui_buffer.proofs.laws.longest_front_is_kept.Goals as goal

pub returns : goal.returns
returns c = IsLongestFront-kept
