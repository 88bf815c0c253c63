use Rattle.std.proofs.Common.{rules, SFits, w64, ◌∙◌, ap}
use Rattle.std.specs.Int.{w128}
use Rattle.std.proofs.lemmas.Int.{to_z-of_z}
use Rattle.rtui_dots.specs.Circles.{fine, fine_column, fine_row}
use Rattle.rtui_dots.proofs.CircleLemmas.{degree-painted}
use Rattle.rtui_dots.proofs.painter.Painter.set_degree.Goals as goal

pub returns : goal.returns
returns c =
    let x : SFits w64 c.args.circle.now.x = search rules in
    let y : SFits w64 c.args.circle.now.y = search rules in
    let cosine : SFits w128 c.cosine_of.result = search rules in
    let sine : SFits w128 c.cosine_of-2.result = search rules in
    let fine_x : SFits w128 c.fine-x.result = search rules in
    let fine_y : SFits w128 c.fine-y.result = search rules in
    let at_x = simp to_z-of_z at c.fine-x.ensures.value in
    let at_y = simp to_z-of_z at c.fine-y.ensures.value in
    let column = simp to_z-of_z at c.fine_column-column.ensures.value in
    let row = simp to_z-of_z at c.fine_row-row.ensures.value in
    degree-painted c.args.self.now.scale c.args.circle.now c.args.degrees c.fine_column-column.result c.fine_row-row.result
    c.args.self.now c.set_dot.new.self
    (column ∙ ap (fine_column c.args.self.now.scale)
    (at_x ∙ ap (λ z. fine c.args.circle.now.x c.args.circle.now.radius z) c.cosine_of.ensures.value))
    (row ∙ ap (fine_row c.args.self.now.scale)
    (at_y ∙ ap (λ z. fine c.args.circle.now.y c.args.circle.now.radius z) c.cosine_of-2.ensures.value)) c.set_dot.ensures
