use Rattle.std.proofs.Common.{refl}
use Rattle.rtui_drawing.specs.{Cuts.cut_from, declared.cut.Cut.TheVariants.After}
use Rattle.rtui_drawing.proofs.DrawingLemmas.{done-in, draws-then}
use Rattle.widget_list.proofs.list.List.draw_text.Goals as goal

pub returns : goal.returns
returns c =
    let cut = After c.args.mark in
    draws-then _ (rw c.patch.ensures at c.put_style.ensures)
    (done-in cut (cut_from cut c.args.part) _ (rw c.of.ensures at c.put_text.ensures) refl)
