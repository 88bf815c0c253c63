use Rattle.rtui_buffer.proofs.ShownLemmas.{shown-look}
use Rattle.rtui_buffer.proofs.laws.shown_cells_have_their_looks.Goals as goal

pub returns : goal.returns
returns c = shown-look
