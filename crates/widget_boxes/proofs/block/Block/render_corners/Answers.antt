use Rattle.std.proofs.Common.{◌&&◌}
use Rattle.widget_boxes.specs.Boxes.{stroke, corner_strokes, has_side, left, right, top, bottom, last_column, last_row}
use Rattle.ratatui_core.specs.Buffer.{place_at, position_of}
use Rattle.widget_boxes.proofs.BoxLemmas.{draws-first, draws-two, draws-three, draws-four, inside-within}
use Rattle.widget_boxes.proofs.block.Block.render_corners.Goals as goal

pub returns-in_err-draw : goal.returns-in_err-draw
returns-in_err-draw c =
    draws-first c.args.self.now c.args.area
    (stroke c.has_corner-bottom_right.result c.place.result c.args.self.now.border_set.bottom_right.now)
    (stroke (has_side c.args.self.now right && has_side c.args.self.now top)
    (place_at (position_of (last_column c.args.area, c.args.area.y))) c.args.self.now.border_set.top_right.now)
    (stroke (has_side c.args.self.now left && has_side c.args.self.now bottom)
    (place_at (position_of (c.args.area.x, last_row c.args.area))) c.args.self.now.border_set.bottom_left.now)
    (stroke (has_side c.args.self.now left && has_side c.args.self.now top)
    (place_at (position_of (c.args.area.x, c.args.area.y))) c.args.self.now.border_set.top_left.now)
    (corner_strokes c.args.self.now c.args.area) (cc)
    c.in_err-draw.field-0.0 c.from_residual.result c.args.buf.now c.draw.new.buf c.in_err-draw.ensures c.from_residual.ensures.0

pub returns-in_err-draw-2 : goal.returns-in_err-draw-2
returns-in_err-draw-2 c =
    draws-two c.args.self.now c.args.area
    (stroke c.has_corner-bottom_right.result c.place.result c.args.self.now.border_set.bottom_right.now)
    (stroke c.has_corner-top_right.result c.place-2.result c.args.self.now.border_set.top_right.now)
    (stroke (has_side c.args.self.now left && has_side c.args.self.now bottom)
    (place_at (position_of (c.args.area.x, last_row c.args.area))) c.args.self.now.border_set.bottom_left.now)
    (stroke (has_side c.args.self.now left && has_side c.args.self.now top)
    (place_at (position_of (c.args.area.x, c.args.area.y))) c.args.self.now.border_set.top_left.now)
    (corner_strokes c.args.self.now c.args.area) (cc)
    c.in_ok-draw.field-0 c.in_err-draw-2.field-0.0 c.from_residual-in_err-draw-2.result c.args.buf.now c.draw.new.buf
    c.draw-2.new.buf c.in_ok-draw.ensures c.in_err-draw-2.ensures c.from_residual-in_err-draw-2.ensures.0

pub returns-in_err-draw-3 : goal.returns-in_err-draw-3
returns-in_err-draw-3 c =
    draws-three c.args.self.now c.args.area
    (stroke c.has_corner-bottom_right.result c.place.result c.args.self.now.border_set.bottom_right.now)
    (stroke c.has_corner-top_right.result c.place-2.result c.args.self.now.border_set.top_right.now)
    (stroke c.has_corner-bottom_left.result c.place-3.result c.args.self.now.border_set.bottom_left.now)
    (stroke (has_side c.args.self.now left && has_side c.args.self.now top)
    (place_at (position_of (c.args.area.x, c.args.area.y))) c.args.self.now.border_set.top_left.now)
    (corner_strokes c.args.self.now c.args.area) (cc)
    c.in_ok-draw.field-0 c.in_ok-draw-2.field-0 c.in_err-draw-3.field-0.0 c.from_residual-in_err-draw-3.result c.args.buf.now
    c.draw.new.buf c.draw-2.new.buf c.draw-3.new.buf
    c.in_ok-draw.ensures c.in_ok-draw-2.ensures c.in_err-draw-3.ensures c.from_residual-in_err-draw-3.ensures.0

pub returns : goal.returns
returns c =
    draws-four c.args.self.now c.args.area
    (stroke c.has_corner-bottom_right.result c.place.result c.args.self.now.border_set.bottom_right.now)
    (stroke c.has_corner-top_right.result c.place-2.result c.args.self.now.border_set.top_right.now)
    (stroke c.has_corner-bottom_left.result c.place-3.result c.args.self.now.border_set.bottom_left.now)
    (stroke c.has_corner-top_left.result c.place-4.result c.args.self.now.border_set.top_left.now)
    (corner_strokes c.args.self.now c.args.area) (cc)
    c.in_ok-draw.field-0 c.in_ok-draw-2.field-0 c.in_ok-draw-3.field-0 c.draw-4.result c.args.buf.now c.draw.new.buf
    c.draw-2.new.buf c.draw-3.new.buf c.draw-4.new.buf
    c.in_ok-draw.ensures c.in_ok-draw-2.ensures c.in_ok-draw-3.ensures c.draw-4.ensures

pub draw-requires-3-clause-inside : goal.draw-requires-3-clause-inside
draw-requires-3-clause-inside c =
    inside-within c.args.area c.draw.new.buf c.draw-2.new.buf
    (inside-within c.args.area c.args.buf.now c.draw.new.buf c.requires.inside c.draw.ensures.within) c.draw-2.ensures.within

pub draw-requires-4-clause-inside : goal.draw-requires-4-clause-inside
draw-requires-4-clause-inside c =
    inside-within c.args.area c.draw-2.new.buf c.draw-3.new.buf
    (inside-within c.args.area c.draw.new.buf c.draw-2.new.buf
    (inside-within c.args.area c.args.buf.now c.draw.new.buf c.requires.inside c.draw.ensures.within) c.draw-2.ensures.within)
    c.draw-3.ensures.within
