use Rattle.std.proofs.Common.{◌≡◌, rules, arith}
use Rattle.ratatui_core.specs.Buffer.{with_symbol}
use Rattle.widget_sparkline.proofs.BlockLemmas.{next-cell}
use Rattle.widget_sparkline.proofs.fill.set_column.Goals as goal

pub loop-row-preserved : goal.loop-row-preserved
loop-row-preserved c =
    let made : c.set_symbol.new.self ≡ with_symbol c.args.symbol.now c.index-cells-row.result = search rules in
    next-cell c.args.width (λ _. with_symbol c.args.symbol.now) c.args.column c.args.block.top c.loop-row.row c.args.cells.now
    c.loop-row.cells c.index-cells-row.result c.set_symbol.new.self (omega arith) c.requires.column
    (c.requires.inside.rows c.loop-row.row (omega arith)) c.index-cells-row.is made c.loop-row.invariant
