use Rattle.std.proofs.Common.{subst, sym}
use Rattle.widget_paragraph.specs.{Inner.left_of, Reflow.AllFit}
use Rattle.widget_paragraph.proofs.RowsLemmas.{fit-of-line}
use Rattle.widget_paragraph.proofs.paragraph.Paragraph.count_broken.Goals as goal

pub row_count-requires-clause-fit : goal.row_count-requires-clause-fit
row_count-requires-clause-fit c =
    subst (λ w. AllFit w (left_of c.new.result)) (sym c.new.ensures.width)
    (fit-of-line c.args.width (left_of c.new.result) _ c.new.ensures.left)
