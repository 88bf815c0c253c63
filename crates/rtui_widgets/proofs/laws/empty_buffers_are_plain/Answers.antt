use Rattle.rtui_widgets.proofs.PlainLemmas.{plain-emptied}
use Rattle.rtui_widgets.proofs.laws.empty_buffers_are_plain.Goals as goal

pub returns : goal.returns
returns c = plain-emptied
