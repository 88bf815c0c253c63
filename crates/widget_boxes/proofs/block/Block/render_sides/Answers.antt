use Rattle.widget_boxes.specs.Boxes.{stroke, side_strokes, has_side, right, top, bottom, right_side, top_side, bottom_side}
use Rattle.widget_boxes.proofs.BoxLemmas.{draws-first, draws-two, draws-three, draws-four}
use Rattle.widget_boxes.proofs.block.Block.render_sides.Goals as goal

pub returns-in_err-draw : goal.returns-in_err-draw
returns-in_err-draw c =
    draws-first c.args.self.now c.args.area
    (stroke c.has_side-left.result c.left_side.result c.args.self.now.border_set.vertical_left.now)
    (stroke (has_side c.args.self.now top)
    (top_side c.args.self.now c.args.area) c.args.self.now.border_set.horizontal_top.now)
    (stroke (has_side c.args.self.now right)
    (right_side c.args.self.now c.args.area) c.args.self.now.border_set.vertical_right.now)
    (stroke (has_side c.args.self.now bottom)
    (bottom_side c.args.self.now c.args.area) c.args.self.now.border_set.horizontal_bottom.now)
    (side_strokes c.args.self.now c.args.area) (cc)
    c.in_err-draw.field-0.0 c.from_residual.result c.args.buf.now c.draw.new.buf c.in_err-draw.ensures c.from_residual.ensures.0

pub returns-in_err-draw-2 : goal.returns-in_err-draw-2
returns-in_err-draw-2 c =
    draws-two c.args.self.now c.args.area
    (stroke c.has_side-left.result c.left_side.result c.args.self.now.border_set.vertical_left.now)
    (stroke c.has_side-top.result c.top_side.result c.args.self.now.border_set.horizontal_top.now)
    (stroke (has_side c.args.self.now right)
    (right_side c.args.self.now c.args.area) c.args.self.now.border_set.vertical_right.now)
    (stroke (has_side c.args.self.now bottom)
    (bottom_side c.args.self.now c.args.area) c.args.self.now.border_set.horizontal_bottom.now)
    (side_strokes c.args.self.now c.args.area) (cc)
    c.in_ok-draw.field-0 c.in_err-draw-2.field-0.0 c.from_residual-in_err-draw-2.result c.args.buf.now c.draw.new.buf
    c.draw-2.new.buf c.in_ok-draw.ensures c.in_err-draw-2.ensures c.from_residual-in_err-draw-2.ensures.0

pub returns-in_err-draw-3 : goal.returns-in_err-draw-3
returns-in_err-draw-3 c =
    draws-three c.args.self.now c.args.area
    (stroke c.has_side-left.result c.left_side.result c.args.self.now.border_set.vertical_left.now)
    (stroke c.has_side-top.result c.top_side.result c.args.self.now.border_set.horizontal_top.now)
    (stroke c.has_side-right.result c.right_side.result c.args.self.now.border_set.vertical_right.now)
    (stroke (has_side c.args.self.now bottom)
    (bottom_side c.args.self.now c.args.area) c.args.self.now.border_set.horizontal_bottom.now)
    (side_strokes c.args.self.now c.args.area) (cc)
    c.in_ok-draw.field-0 c.in_ok-draw-2.field-0 c.in_err-draw-3.field-0.0 c.from_residual-in_err-draw-3.result c.args.buf.now
    c.draw.new.buf c.draw-2.new.buf c.draw-3.new.buf
    c.in_ok-draw.ensures c.in_ok-draw-2.ensures c.in_err-draw-3.ensures c.from_residual-in_err-draw-3.ensures.0

pub returns : goal.returns
returns c =
    draws-four c.args.self.now c.args.area
    (stroke c.has_side-left.result c.left_side.result c.args.self.now.border_set.vertical_left.now)
    (stroke c.has_side-top.result c.top_side.result c.args.self.now.border_set.horizontal_top.now)
    (stroke c.has_side-right.result c.right_side.result c.args.self.now.border_set.vertical_right.now)
    (stroke c.has_side-bottom.result c.bottom_side.result c.args.self.now.border_set.horizontal_bottom.now)
    (side_strokes c.args.self.now c.args.area) (cc)
    c.in_ok-draw.field-0 c.in_ok-draw-2.field-0 c.in_ok-draw-3.field-0 c.draw-4.result c.args.buf.now c.draw.new.buf
    c.draw-2.new.buf c.draw-3.new.buf c.draw-4.new.buf
    c.in_ok-draw.ensures c.in_ok-draw-2.ensures c.in_ok-draw-3.ensures c.draw-4.ensures
