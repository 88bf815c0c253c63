use Rattle.rtui_cell.proofs.NarrowLemmas.{merged-narrow}
use Rattle.rtui_cell.proofs.laws.joined_symbols_are_narrow.Goals as goal

pub returns : goal.returns
returns c = merged-narrow
