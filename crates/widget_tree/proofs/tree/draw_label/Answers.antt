use Rattle.std.proofs.Common.{ap, ◌∙◌}
use Rattle.rtui_drawing.specs.Cuts.{cut_from}
use Rattle.rtui_drawing.specs.declared.cut.Cut.TheVariants.{After}
use Rattle.rtui_drawing.proofs.DrawingLemmas.{done-stop}
use Rattle.widget_tree.proofs.DrawLemmas.{label-then}
use Rattle.widget_tree.proofs.tree.draw_label.Goals as goal

pub returns-in_err-columns : goal.returns-in_err-columns
returns-in_err-columns c =
    done-stop c.from_residual.result c.from_residual.ensures.0 (rw c.new.ensures at c.in_err-columns.ensures.done)

pub returns : goal.returns
returns c =
    label-then c.args.symbol.now c.args.line.now c.args.row c.of.result c.put_line.result
    (rw c.new.ensures at c.in_ok-columns.ensures.done)
    (c.of.ensures ∙ ap (λ n. cut_from (After n) c.args.row) (rw c.new.ensures at c.in_ok-columns.ensures.columns))
    c.put_line.ensures
