use Rattle.widget_logo.proofs.NarrowLemmas.{logo-plain}
use Rattle.widget_logo.proofs.laws.logos_keep_cells_plain.Goals as goal

pub returns : goal.returns
returns c = logo-plain
