use Rattle.std.proofs.Common.{codes}
use Rattle.widget_throbber.proofs.NarrowLemmas.{blank-printable, throbber-plain}
use Rattle.widget_throbber.proofs.laws.throbbers_keep_cells_plain.Goals as goal

pub returns : goal.returns
returns c = throbber-plain (c.printable_graphemes_take_one_column.ensures.text (codes " ") blank-printable)
