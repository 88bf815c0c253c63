use Rattle.rtui_buffer.proofs.ColumnLemmas.{text-ends, line-ends}
use Rattle.rtui_buffer.proofs.laws.painting_ends_in_its_row.Goals as goal

pub returns-clause-text : goal.returns-clause-text
returns-clause-text c = text-ends

pub returns-clause-line : goal.returns-clause-line
returns-clause-line c = line-ends
