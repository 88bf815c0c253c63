use Rattle.std.proofs.Common.{arith, refl}
use Rattle.rtui_drawing.specs.declared.cut.Cut.TheVariants.{Rows}
use Rattle.rtui_drawing.proofs.DrawingLemmas.{done-in, done-stop}
use Rattle.rtui_inside.proofs.InsideLemmas.{row-inside}
use Rattle.widget_meters.proofs.MeterLemmas.{fills-line}
use Rattle.widget_meters.proofs.line_gauge.LineGaugeDrawInside.draw_inside.Goals as goal

pub write_label-requires : goal.write_label-requires
write_label-requires c =
    row-inside c.args.buf.now.area c.args.inner c.of-row.result 0 c.requires.some c.requires.inside c.requires.some.rows
    c.of-row.ensures

pub returns-in_err-label : goal.returns-in_err-label
returns-in_err-label c =
    done-in (Rows 0 1) _ c.from_residual.result (done-stop c.from_residual.result c.from_residual.ensures.0
    (rw c.of-row.ensures at c.in_err-label.ensures.done)) refl

pub returns : goal.returns
returns c =
    fills-line c.put_change.result c.args.self.now c.args.inner c.of-row.result c.of-part.result c.in_ok-label.label
    c.saturating_add.result c.saturating_add-2.result c.args.buf.now c.write_label.new.buf c.put_change.new.buf
    c.of-row.ensures c.in_ok-label.ensures.done c.in_ok-label.ensures.columns (omega arith) c.of-part.ensures
    (omega (arith, c.filled.ensures.value)) c.put_change.ensures
