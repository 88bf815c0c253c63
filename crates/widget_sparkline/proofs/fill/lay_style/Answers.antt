use Rattle.widget_sparkline.proofs.BlockLemmas.{block-ready}
use Rattle.widget_sparkline.proofs.fill.lay_style.Goals as goal

pub style_block-requires : goal.style_block-requires
style_block-requires c = block-ready c.args.buf.now c.args.area c.area-own.result.now c.intersection-part.result _ _ _
    c.area-own.ensures.area c.intersection-part.ensures.value c.from-width.ensures c.block_of.ensures c.cells_mut.ensures.cells
    c.if-is_empty.ensures.1 c.area-own.ensures.count
