use Rattle.widget_paragraph.proofs.RowsLemmas.{whole-together}
use Rattle.widget_paragraph.proofs.laws.whole_graphemes_are_painted_together.Goals as goal

pub returns : goal.returns
returns c = whole-together
