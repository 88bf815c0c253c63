use Rattle.rtui_widgets.specs.{Rendering.text_row, Inner.rows_from}
use Rattle.rtui_buffer.specs.Painting.{KeepsUnmarked}
use Rattle.rtui_widgets.proofs.RowLemmas.{HasMade}
use Rattle.rtui_widgets.proofs.text.render_rows.Given as goal

abbrev pub invariant-loop-k : goal.invariant-loop-k
invariant-loop-k l = HasMade (rows_from l.start l.width l.stride l.height) (text_row l.text) l.k l.initial.cells l.cells
    × KeepsUnmarked l.initial.cells l.cells
