use Rattle.std.proofs.Common.{◌≡◌, arith, subst}
use Rattle.ratatui_core.specs.Buffer.{styled}
use Rattle.widget_sparkline.specs.Inner.{MakesBlock}
use Rattle.widget_sparkline.proofs.fill.style_block.Goals as goal

pub returns : goal.returns
returns c =
    let end : c.loop-column.column ≡ c.args.block.right = omega arith in
    subst (λ n. MakesBlock c.args.width (record c.args.block { right = n }) (λ _. styled c.args.style) c.args.cells.now
    c.loop-column.cells) end c.loop-column.invariant
