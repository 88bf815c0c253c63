use Rattle.rtui_cell.proofs.CellLemmas.{equal_parts, same_meaning}
use Rattle.rtui_cell.proofs.laws.equality_is_by_looks.Goals as goal

pub returns : goal.returns
returns c a b = (same_meaning a b, equal_parts a b)
