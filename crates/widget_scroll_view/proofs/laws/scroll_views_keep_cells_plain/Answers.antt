use Rattle.widget_scroll_view.proofs.SettledViewLemmas.{view-plain}
use Rattle.widget_scroll_view.proofs.laws.scroll_views_keep_cells_plain.Goals as goal

pub returns : goal.returns
returns c = view-plain
