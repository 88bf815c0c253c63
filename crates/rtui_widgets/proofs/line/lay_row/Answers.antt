use Rattle.std.proofs.Common.{arith}
use Rattle.rtui_cell.specs.Cell.{empty_cell, styled}
use Rattle.rtui_grid.proofs.ItemLemmas.{mapped}
use Rattle.rtui_widgets.proofs.line.lay_row.Goals as goal

pub returns : goal.returns
returns c = mapped empty_cell (styled c.args.style) _ _ c.loop-cell.auto.row (λ k lt. c.loop-cell.invariant.done k (omega arith))
