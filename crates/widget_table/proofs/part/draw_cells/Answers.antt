use Rattle.std.proofs.Common.{get_or, refl, arith}
use Rattle.ratatui_core.specs.Layout.{Rect}
use Rattle.rtui_drawing.specs.{Cuts.cut_from, declared.cut.Cut.TheVariants.Within}
use Rattle.rtui_drawing.proofs.DrawingLemmas.{done-in, continues-next, continues-stop, continues-end}
use Rattle.widget_table.proofs.PartLemmas.{cells-next, cells-end}
use Rattle.widget_table.proofs.part.draw_cells.Goals as goal

abbrev none : Rect
none = record { x = 0; y = 0; width = 0; height = 0 }

pub returns-in_err-draw : goal.returns-in_err-draw
returns-in_err-draw c =
    let next = cells-next c.args.columns.now c.args.cells.now c.loop-k.k none c.index-cells-k.result
    (omega (arith, c.min-k-end.ensures)) c.index-cells-k.is in
    let cut = Within (get_or c.args.columns.now c.loop-k.k none) in
    continues-stop _ c.from_residual.ensures.0 (rw next at c.loop-k.invariant)
    (done-in cut (cut_from cut c.args.area) _ (rw c.of.ensures at c.in_err-draw.ensures) refl)

pub loop-k-preserved : goal.loop-k-preserved
loop-k-preserved c =
    let next = cells-next c.args.columns.now c.args.cells.now c.loop-k.k none c.index-cells-k.result
    (omega (arith, c.min-k-end.ensures)) c.index-cells-k.is in
    let cut = Within (get_or c.args.columns.now c.loop-k.k none) in
    continues-next (rw next at c.loop-k.invariant)
    (done-in cut (cut_from cut c.args.area) _ (rw c.of.ensures at c.in_ok-draw.ensures) refl)

pub returns : goal.returns
returns c =
    let none = cells-end c.args.columns.now c.args.cells.now c.loop-k.k (omega (arith, c.min-k-end.ensures)) in
    continues-end (rw none at c.loop-k.invariant)
