use Rattle.widget_scrollbar.proofs.NarrowBarLemmas.{plain-scrollbar}
use Rattle.widget_scrollbar.proofs.laws.scroll_bars_keep_cells_plain.Goals as goal

pub returns : goal.returns
returns c = plain-scrollbar
