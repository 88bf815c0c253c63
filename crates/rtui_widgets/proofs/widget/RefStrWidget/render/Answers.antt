use Rattle.std.proofs.Common.{rules, arith}
use Rattle.rtui_style.specs.Style.{new_style}
use Rattle.rtui_geometry.specs.Rect.{corner}
use Rattle.rtui_buffer.specs.PaintedText.{pieces_at}
use Rattle.rtui_buffer.proofs.{ColumnLemmas.text-keeps, ColumnLemmas.text-ends, PaintsLemmas.front-beside}
use Rattle.rtui_widgets.specs.Rendering.{ChangesWithin, first_row}
use Rattle.rtui_widgets.proofs.WithinLemmas.{within-beside}
use Rattle.rtui_widgets.proofs.widget.RefStrWidget.render.Goals as goal

pub returns-in_err-set_stringn-clause-err : goal.returns-in_err-set_stringn-clause-err
returns-in_err-set_stringn-clause-err c =
    let own = c.args.buf.now.area in
    let area = c.args.area in
    let keeps = text-keeps own area.x area.width new_style c.args.self.now in
    let within : ChangesWithin (first_row area) c.args.buf.now c.set_stringn.new.self =
    within-beside (first_row area) (corner area) (pieces_at own area.x area.width new_style c.args.self.now) c.args.buf.now
    c.set_stringn.new.self c.requires.row c.requires.column
    (text-ends own area.x area.width new_style c.args.self.now) (λ q in_own from to same. omega arith)
    (rw (← c.from.ensures, ← c.new.ensures) (front-beside _ _ _ _ c.in_err-set_stringn.ensures.paints.front)) in
    search rules
