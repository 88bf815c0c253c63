use Rattle.std.proofs.Common.{◌-◌, refl}
use Rattle.rtui_drawing.specs.Cuts.{cut_from}
use Rattle.rtui_drawing.specs.declared.cut.Cut.TheVariants.{After}
use Rattle.rtui_drawing.specs.Drawings.{over, ◌before◌, IsDone}
use Rattle.rtui_drawing.proofs.DrawingLemmas.{draws-then, done-then, done-in}
use Rattle.widget_area.specs.TextAreas.{line_drawing, number_drawing}
use Rattle.widget_area.proofs.widget.TextAreaWidget.draw_row.Goals as goal

pub returns-clause-done : goal.returns-clause-done
returns-clause-done c =
    let w = c.args.self.now in let p = c.args.plan.now in let row = c.args.row in
    let line : IsDone (over (After p.numbers) (line_drawing w p (row.width - p.numbers) c.args.number)) row c.draw_line.result
    c.draw_number.new.buf c.draw_line.new.buf =
    done-in (After p.numbers) (cut_from (After p.numbers) row) c.draw_line.result (rw c.of.ensures at c.draw_line.ensures.done)
    refl in
    let behind : IsDone (number_drawing w p row.width c.args.number
    before over (After p.numbers) (line_drawing w p (row.width - p.numbers) c.args.number)) row c.draw_line.result
    c.put_style_if.new.buf c.draw_line.new.buf = done-then c.draw_line.result c.in_ok-draw_number.ensures.done line in
    draws-then c.draw_line.result c.put_style_if.ensures.drawn behind
