use Rattle.rtui_drawing.proofs.DrawingLemmas.{done-within, done-all, done-err}
use Rattle.widget_meters.proofs.MeterLemmas.{label-row, labels-bar}
use Rattle.widget_meters.proofs.gauge.Gauge.draw_labelled.Goals as goal

pub write-requires : goal.write-requires
write-requires c =
    let same = (done-within _ c.in_ok-put_change.ensures).same_area in
    rw (same, c.fill-fill.ensures.fill.label)
    (label-row c.args.text.now c.args.buf.now.area c.args.inner c.requires.some c.requires.inside)

pub returns-in_err-put_change : goal.returns-in_err-put_change
returns-in_err-put_change c = absurd (c.in_err-put_change.ensures.err.long (λ p q. c.fill-fill.ensures.light))

pub returns-in_err-write : goal.returns-in_err-write
returns-in_err-write c =
    done-err _ c.from_residual-in_err-write.ensures.0 (labels-bar _ c.args.self.now c.args.text.now c.args.style c.args.inner
    c.fill-fill.result c.args.buf.now c.put_change.new.buf c.write.new.buf c.fill-fill.ensures.fill
    c.in_ok-put_change.ensures.ok c.in_err-write.ensures.done)

pub returns : goal.returns
returns c =
    done-all (labels-bar _ c.args.self.now c.args.text.now c.args.style c.args.inner c.fill-fill.result c.args.buf.now
    c.put_change.new.buf c.write.new.buf c.fill-fill.ensures.fill c.in_ok-put_change.ensures.ok c.in_ok-write.ensures.done).ok
