use Rattle.widget_canvas.proofs.CanvasLemmas.{label-inside}
use Rattle.widget_canvas.proofs.label.Label.area.Goals as goal

pub returns-clause-inside : goal.returns-clause-inside
returns-clause-inside c =
    rw c.area_from.ensures
    (label-inside c.args.inner c.column.result c.row.result c.args.self.now.line c.requires.some
    (rw c.requires.columns at c.column.ensures.within) (rw c.requires.rows at c.row.ensures.within))
