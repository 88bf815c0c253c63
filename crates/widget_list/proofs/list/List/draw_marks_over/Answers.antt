use Rattle.std.proofs.Common.{◌≡◌, true, false, refl, nat_lt, arith}
use Rattle.std.proofs.lemmas.Bool.Decides.{nat_tests}
use Rattle.rtui_drawing.specs.{Cuts.cut_from, declared.cut.Cut.TheVariants.First}
use Rattle.rtui_drawing.proofs.DrawingLemmas.{done-if, done-skip, done-in}
use Rattle.widget_list.proofs.list.List.draw_marks_over.Goals as goal

pub returns-then-mark-eq0 : goal.returns-then-mark-eq0
returns-then-mark-eq0 c =
    let none : nat_lt 0 c.args.mark ≡ false = grind (arith, nat_tests, c.if-mark-eq0.true) in
    done-skip _ _ none

pub returns : goal.returns
returns c =
    let some : nat_lt 0 c.args.mark ≡ true = grind (arith, nat_tests, c.if-mark-eq0.false) in
    let cut = First c.args.mark in
    done-if _ some (done-in cut (cut_from cut c.args.part) _ (rw c.of.ensures at c.draw_marks.ensures) refl)
