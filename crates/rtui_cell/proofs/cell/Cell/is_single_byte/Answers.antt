use Rattle.std.proofs.Common.{arith}
use Rattle.rtui_cell.specs.Cell.{is_single_byte}
use Rattle.rtui_cell.proofs.CellLemmas.{single_byte_width}
use Rattle.rtui_cell.proofs.cell.Cell.is_single_byte.Goals as goal

pub returns-then-matches-clause-narrow : goal.returns-then-matches-clause-narrow
unfolding is_single_byte
returns-then-matches-clause-narrow c = grind (arith, single_byte_width)
