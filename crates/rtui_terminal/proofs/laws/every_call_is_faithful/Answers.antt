use Rattle.rtui_terminal.proofs.HeadlineLemmas.{all_faithful}
use Rattle.rtui_terminal.proofs.laws.every_call_is_faithful.Goals as goal

pub returns : goal.returns
returns g c = all_faithful g.B.Backend.screen
