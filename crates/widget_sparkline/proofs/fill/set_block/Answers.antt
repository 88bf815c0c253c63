use Rattle.std.proofs.Common.{◌≡◌, arith, subst}
use Rattle.ratatui_core.specs.Buffer.{with_symbol}
use Rattle.widget_sparkline.specs.Inner.{MakesBlock}
use Rattle.widget_sparkline.proofs.fill.set_block.Goals as goal

pub returns-clause-ok : goal.returns-clause-ok
returns-clause-ok c =
    let end : c.loop-column.column ≡ c.args.block.right = omega arith in
    subst (λ n. MakesBlock c.args.width (record c.args.block { right = n }) (λ _. with_symbol c.args.symbol.now) c.args.cells.now
    c.loop-column.cells) end c.loop-column.invariant
