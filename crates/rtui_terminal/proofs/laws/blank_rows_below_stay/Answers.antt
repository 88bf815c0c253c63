use Rattle.rtui_terminal.proofs.KeepLemmas.{below-kept}
use Rattle.rtui_terminal.proofs.laws.blank_rows_below_stay.Goals as goal

pub returns : goal.returns
returns g c = below-kept g.B.Backend.screen
