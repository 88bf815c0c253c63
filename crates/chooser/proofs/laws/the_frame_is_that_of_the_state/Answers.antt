use Rattle.chooser.proofs.SettlingLemmas.{frame-of-state}
use Rattle.chooser.proofs.laws.the_frame_is_that_of_the_state.Goals as goal

pub returns : goal.returns
returns c = frame-of-state
