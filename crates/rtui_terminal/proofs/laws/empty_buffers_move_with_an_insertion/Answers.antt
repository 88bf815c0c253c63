use Rattle.rtui_terminal.proofs.InsertionLemmas.{emptied-moved}
use Rattle.rtui_terminal.proofs.laws.empty_buffers_move_with_an_insertion.Goals as goal

pub returns : goal.returns
returns g c = emptied-moved g.B.Backend.screen
