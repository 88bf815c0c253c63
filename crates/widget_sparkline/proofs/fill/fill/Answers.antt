use Rattle.std.proofs.Common.{refl}
use Rattle.ratatui_core.specs.Buffer.{IsShort, with_symbol}
use Rattle.widget_sparkline.proofs.BlockLemmas.{block-ready, block-drawn}
use Rattle.widget_sparkline.proofs.fill.fill.Goals as goal

pub fill_block-requires : goal.fill_block-requires
fill_block-requires c = block-ready c.args.buf.now c.args.area c.area-own.result.now c.intersection-part.result _ _ _
    c.area-own.ensures.area c.intersection-part.ensures.value c.from-width.ensures c.block_of.ensures c.cells_mut.ensures.cells
    c.if-is_empty.ensures.1 c.area-own.ensures.count

pub returns : goal.returns
returns c = block-drawn c.args.buf.now c.args.area c.area-own.result.now c.intersection-part.result _ _ _
    c.area-own.ensures.area c.intersection-part.ensures.value c.from-width.ensures c.block_of.ensures c.cells_mut.ensures.cells
    c.fill_block.result (IsShort c.args.symbol.now) (λ _. with_symbol c.args.symbol.now) (λ _. with_symbol c.args.symbol.now)
    c.fill_block.new.cells (λ p in_own here place cell. refl) c.fill_block.ensures.ok c.fill_block.ensures.err c.fill_block.ensures.short
