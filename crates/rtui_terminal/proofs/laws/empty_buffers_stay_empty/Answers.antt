use Rattle.rtui_terminal.proofs.RenderedLemmas.{sized-empty}
use Rattle.rtui_terminal.proofs.laws.empty_buffers_stay_empty.Goals as goal

pub returns : goal.returns
returns g c = sized-empty _
