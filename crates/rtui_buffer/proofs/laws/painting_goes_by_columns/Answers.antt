use Rattle.rtui_buffer.proofs.ColumnLemmas.{PaintsByColumns-paints, same-beside}
use Rattle.rtui_buffer.proofs.laws.painting_goes_by_columns.Goals as goal

pub returns-clause-painted : goal.returns-clause-painted
returns-clause-painted c = PaintsByColumns-paints

pub returns-clause-refused : goal.returns-clause-refused
returns-clause-refused c = same-beside
