use Rattle.widget_boxes.proofs.BoxLemmas.{draws-one}
use Rattle.widget_boxes.proofs.block.Block.draw.Goals as goal

pub returns : goal.returns
returns c =
    draws-one c.args.self.now c.args.area c.args.part c.args.symbol.now c.args.is_drawn c.change_area.result c.args.buf.now
    c.change_area.new.buf c.if-not-is_drawn.false c.requires.part
    c.change_area.ensures.ok c.change_area.ensures.err c.change_area.ensures.short
