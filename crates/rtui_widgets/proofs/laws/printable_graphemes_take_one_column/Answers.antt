use Rattle.rtui_widgets.proofs.PrintableTextLemmas.{printable-narrow, line-narrow}
use Rattle.rtui_widgets.proofs.laws.printable_graphemes_take_one_column.Goals as goal

pub returns-clause-text : goal.returns-clause-text
returns-clause-text c = printable-narrow

pub returns-clause-line : goal.returns-clause-line
returns-clause-line c = line-narrow
