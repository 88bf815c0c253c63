use Rattle.rtui_buffer.proofs.ColumnLemmas.{text-keeps, line-keeps}
use Rattle.rtui_buffer.proofs.laws.painting_keeps_to_its_columns.Goals as goal

pub returns-clause-text : goal.returns-clause-text
returns-clause-text c = text-keeps

pub returns-clause-line : goal.returns-clause-line
returns-clause-line c = line-keeps
