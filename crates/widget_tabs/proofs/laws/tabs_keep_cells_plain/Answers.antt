use Rattle.std.proofs.Common.{codes}
use Rattle.widget_tabs.proofs.NarrowTabLemmas.{blank-printable, tabs-keep}
use Rattle.widget_tabs.proofs.laws.tabs_keep_cells_plain.Goals as goal

pub returns : goal.returns
returns c = tabs-keep (c.printable_graphemes_take_one_column.ensures.text (codes " ") blank-printable)
