use Rattle.std.proofs.Common.{◌≡◌, ap}
use Rattle.ratatui_core.specs.Text.{SpanData}
use Rattle.widget_meters.proofs.gauge.GaugeDrawInside.draw_inside.Goals as goal

pub returns-in-Some : goal.returns-in-Some
returns-in-Some c =
    let style : c.label.inside.style ≡ c.in-Some.label.style = ap (λ (q : SpanData). q.style) c.label.view_is in
    rw c.in-Some.is (rw (c.text.ensures, style) at c.draw_labelled.ensures)

pub returns-in-None : goal.returns-in-None
returns-in-None c =
    rw c.in-None.is (rw (c.as_str.ensures.value, c.text-text.ensures, c.new.ensures) at c.draw_labelled-in-None.ensures)
