use Rattle.widget_boxes.specs.Boxes.{side_strokes, corner_strokes}
use Rattle.widget_boxes.proofs.BoxLemmas.{draws-then, draws-refused}
use Rattle.widget_boxes.proofs.block.Block.render_borders.Goals as goal

pub returns-in_err-render_sides : goal.returns-in_err-render_sides
returns-in_err-render_sides c =
    draws-refused c.args.self.now c.args.area (side_strokes c.args.self.now c.args.area)
    (corner_strokes c.args.self.now c.args.area) c.in_err-render_sides.field-0.0 c.from_residual.result
    c.args.buf.now c.render_sides.new.buf c.from_residual.ensures.0 c.in_err-render_sides.ensures

pub returns : goal.returns
returns c =
    draws-then c.args.self.now c.args.area (side_strokes c.args.self.now c.args.area)
    (corner_strokes c.args.self.now c.args.area) c.in_ok-render_sides.field-0 c.render_corners.result
    c.args.buf.now c.render_sides.new.buf c.render_corners.new.buf c.in_ok-render_sides.ensures c.render_corners.ensures
