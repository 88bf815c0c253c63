use Rattle.std.proofs.Common.{◌≡◌, arith, subst}
use Rattle.rtui_buffer.specs.Inner.{IsStyledRows}
use Rattle.rtui_buffer.proofs.StyleLemmas.{IsStyledRows-more}
use Rattle.rtui_buffer.proofs.buffer.painting.style_rows.Goals as goal

pub loop-row-preserved : goal.loop-row-preserved
loop-row-preserved c =
    IsStyledRows-more _ _ _ _ _ _ _ _ _ c.requires.columns c.requires.ordered
    (omega arith) c.loop-row.invariant c.style_part.ensures

pub returns : goal.returns
returns c =
    let end : c.loop-row.row ≡ c.args.bottom = omega arith in
    subst (λ n. IsStyledRows c.args.width c.args.left c.args.right c.args.top n c.args.style c.args.cells.now c.loop-row.cells)
    end c.loop-row.invariant
