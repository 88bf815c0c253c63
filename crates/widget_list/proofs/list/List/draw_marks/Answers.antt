use Rattle.std.proofs.Common.{◌≡◌, ◌-◌, refl, arith}
use Rattle.rtui_drawing.specs.{Cuts.cut_from, declared.cut.Cut.TheVariants.Rows}
use Rattle.rtui_drawing.proofs.DrawingLemmas.{done-in, continues-next, continues-stop, continues-end}
use Rattle.widget_list.proofs.ItemLemmas.{marks-next}
use Rattle.widget_list.proofs.list.List.draw_marks.Goals as goal

pub returns-in_err-draw_mark : goal.returns-in_err-draw_mark
returns-in_err-draw_mark c =
    let next = marks-next c.args.self.now c.args.is_selected c.loop-j.j c.args.columns.height (omega arith) in
    let cut = Rows c.loop-j.j 1 in
    continues-stop _ c.from_residual.ensures.0 (rw next at c.loop-j.invariant)
    (done-in cut (cut_from cut c.args.columns) _
    (rw (c.of.ensures, c.is_marked-is_marked.ensures) at c.in_err-draw_mark.ensures) refl)

pub loop-j-preserved : goal.loop-j-preserved
loop-j-preserved c =
    let next = marks-next c.args.self.now c.args.is_selected c.loop-j.j c.args.columns.height (omega arith) in
    let cut = Rows c.loop-j.j 1 in
    continues-next (rw next at c.loop-j.invariant)
    (done-in cut (cut_from cut c.args.columns) _
    (rw (c.of.ensures, c.is_marked-is_marked.ensures) at c.in_ok-draw_mark.ensures) refl)

pub returns : goal.returns
returns c =
    let none : c.args.columns.height - c.loop-j.j ≡ 0 = omega arith in
    continues-end (rw none at c.loop-j.invariant)
