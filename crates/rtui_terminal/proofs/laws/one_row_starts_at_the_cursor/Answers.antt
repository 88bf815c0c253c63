use Rattle.rtui_terminal.proofs.StartLemmas.{starts-in-row}
use Rattle.rtui_terminal.proofs.laws.one_row_starts_at_the_cursor.Goals as goal

pub returns : goal.returns
returns g c = starts-in-row g.B.Backend.screen
