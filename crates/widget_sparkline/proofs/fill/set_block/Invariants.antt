use Rattle.ratatui_core.specs.Buffer.{with_symbol}
use Rattle.widget_sparkline.specs.Inner.{MakesBlock}
use Rattle.widget_sparkline.proofs.fill.set_block.Given as goal

abbrev pub invariant-loop-column : goal.invariant-loop-column
invariant-loop-column l = MakesBlock l.width (record l.block { right = l.column }) (λ _. with_symbol l.symbol) l.initial.cells l.cells
