use Rattle.rtui_cell.proofs.NarrowLemmas.{merged-short}
use Rattle.rtui_cell.proofs.laws.joined_symbols_are_short.Goals as goal

pub returns : goal.returns
returns c = merged-short
