use Rattle.rtui_widgets.proofs.CutLemmas.{part-rest}
use Rattle.rtui_widgets.proofs.laws.a_cut_span_keeps_its_last_graphemes.Goals as goal

pub returns : goal.returns
returns c = part-rest
