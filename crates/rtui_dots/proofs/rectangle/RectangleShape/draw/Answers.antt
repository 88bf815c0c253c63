use Rattle.std.proofs.Common.{rules, w64, SFits}
use Rattle.std.proofs.lemmas.Int.{to_z-of_z}
use Rattle.rtui_dots.proofs.GridLemmas.{rectangle-painted}
use Rattle.rtui_dots.proofs.rectangle.RectangleShape.draw.Goals as goal

pub returns : goal.returns
returns c =
    let x : SFits w64 c.args.self.now.x = search rules in
    let y : SFits w64 c.args.self.now.y = search rules in
    let right : SFits w64 c.saturating_add-right.result = search rules in
    let top : SFits w64 c.saturating_add-top.result = search rules in
    rectangle-painted c.args.self.now c.saturating_add-right.result c.saturating_add-top.result c.args.painter.now
    c.draw_line.new.self c.draw_line-2.new.self c.draw_line-3.new.self c.draw_line-4.new.self (search rules) (search rules)
    (simp to_z-of_z at c.draw_line.ensures) (simp to_z-of_z at c.draw_line-2.ensures) (simp to_z-of_z at c.draw_line-3.ensures)
    (simp to_z-of_z at c.draw_line-4.ensures)
