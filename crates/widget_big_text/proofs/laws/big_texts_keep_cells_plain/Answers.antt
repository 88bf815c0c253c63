use Rattle.widget_big_text.proofs.NarrowLemmas.{big-text-plain}
use Rattle.widget_big_text.proofs.laws.big_texts_keep_cells_plain.Goals as goal

pub returns : goal.returns
returns c = big-text-plain
