use Rattle.std.proofs.Common.{◌≡◌, ◌-◌, length, map, rules}
use Rattle.std.proofs.lemmas.Result.{on_err_weaker}
use Rattle.rtui_cell.specs.Cell.{styled}
use Rattle.rtui_text.specs.Widths.{line_width}
use Rattle.rtui_buffer.specs.Painting.{KeepsUnmarked}
use Rattle.rtui_widgets.specs.Line.{columns_before}
use Rattle.rtui_widgets.proofs.{SpanLemmas.unmarked-written, SpanLemmas.unmarked-styled, LineLemmas.refused-line}
use Rattle.rtui_buffer.proofs.PaintLemmas.{unmarked-then}
use Rattle.rtui_widgets.proofs.line.render_line.Goals as goal

pub returns-clause-marks : goal.returns-clause-marks
returns-clause-marks c =
    let laid : KeepsUnmarked c.args.row.now c.lay_row.new.row =
    rw c.lay_row.ensures (unmarked-styled c.line.inside.style c.args.row.now) in
    let at = c.columns_before-indent.result in
    unmarked-then _ _ _ laid (unmarked-written at (length c.lay_row.new.row - at) c.lay_row.new.row c.render_spans.new.row
    c.render_spans.ensures.marks c.render_spans.auto.row)

pub returns-clause-err : goal.returns-clause-err
returns-clause-err c =
    let line = c.args.line.now in
    let laid : c.lay_row.new.row ≡ map (styled line.style) c.args.row.now = search rules in
    let at : c.columns_before-indent.result ≡ columns_before c.args.alignment (length c.args.row.now - line_width line.spans) =
    search rules in
    let skip : c.columns_before-skip.result ≡ columns_before c.args.alignment (line_width line.spans - length c.args.row.now) =
    search rules in
    on_err_weaker c.render_spans.result
    (λ front. refused-line c.args.alignment line c.args.row.now c.lay_row.new.row c.columns_before-indent.result
    c.columns_before-skip.result _ c.render_spans.new.row laid at skip (search rules) front) c.render_spans.ensures.err
