use Rattle.widget_paragraph.proofs.RowsLemmas.{rows-fit, rows-keep}
use Rattle.widget_paragraph.proofs.laws.wrapping_loses_nothing.Goals as goal

pub returns-clause-fits : goal.returns-clause-fits
returns-clause-fits c = rows-fit

pub returns-clause-words : goal.returns-clause-words
returns-clause-words c = rows-keep
