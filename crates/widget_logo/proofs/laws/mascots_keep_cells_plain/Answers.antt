use Rattle.widget_logo.proofs.NarrowLemmas.{mascot-plain}
use Rattle.widget_logo.proofs.laws.mascots_keep_cells_plain.Goals as goal

pub returns : goal.returns
returns c = mascot-plain
