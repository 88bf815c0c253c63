use Rattle.std.proofs.Common.{drop}
use Rattle.rtui_drawing.proofs.Laws.{Continues}
use Rattle.widget_table.specs.Tables.{cells_drawing}
use Rattle.widget_table.proofs.part.draw_cells.Given as goal

abbrev pub invariant-loop-k : goal.invariant-loop-k
invariant-loop-k l =
    Continues (cells_drawing (drop l.k l.columns) (drop l.k l.cells)) l.area (cells_drawing l.columns l.cells) l.area
    l.fn.buf l.buf
