use Rattle.rtui_terminal.proofs.RenderedLemmas.{sized-stays}
use Rattle.rtui_terminal.proofs.laws.known_sizes_stay.Goals as goal

pub returns : goal.returns
returns g c = sized-stays g.B.Backend.screen
