use Rattle.rtui_terminal.proofs.HeadlineLemmas.{all_rows}
use Rattle.rtui_terminal.proofs.laws.rows_above_are_those_inserted.Goals as goal

pub returns : goal.returns
returns g c = all_rows g.B.Backend.screen
