use Rattle.rtui_buffer.proofs.{LineLemmas.AreWide-line, PartsLemmas.pieces-wide}
use Rattle.rtui_buffer.proofs.laws.pieces_take_columns.Goals as goal

pub returns-clause-text : goal.returns-clause-text
returns-clause-text c = pieces-wide

pub returns-clause-line : goal.returns-clause-line
returns-clause-line c = AreWide-line
