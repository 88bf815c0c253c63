use Rattle.std.proofs.Common.{◌+◌}
use Rattle.ratatui_core.specs.Buffer.{styled}
use Rattle.widget_sparkline.specs.Inner.{MakesBlock}
use Rattle.widget_sparkline.proofs.fill.style_column.Given as goal

abbrev pub invariant-loop-row : goal.invariant-loop-row
invariant-loop-row l = MakesBlock l.width (record { left = l.column; right = l.column + 1; top = l.fn.block.top; bottom = l.row })
    (λ _. styled l.style) l.initial.cells l.cells
