use Rattle.ratatui_core.specs.Buffer.{styled}
use Rattle.widget_sparkline.specs.Inner.{MakesBlock}
use Rattle.widget_sparkline.proofs.fill.style_block.Given as goal

abbrev pub invariant-loop-column : goal.invariant-loop-column
invariant-loop-column l = MakesBlock l.width (record l.block { right = l.column }) (λ _. styled l.style) l.initial.cells l.cells
