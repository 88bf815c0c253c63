-- A gauge on the part of an area that a buffer has, and what a screen shows of one.
use Rattle.std.proofs.Common.{◌<◌, sym, subst, arith, Result, Ok, Err, OnOk, OnErr}
use Rattle.ratatui_core.specs.{Layout.Rect, Layout.EdgesFit, Layout.corner, Backend.Screen, Widgets.IsClipped}
use Rattle.ratatui_core.specs.{Widgets.ChangesWithin}
use Rattle.ratatui_core.specs.Buffer.{BufferData, IsEmptied, IsStyled, Paints, bar_of}
use Rattle.ratatui_core.specs.Terminal.{TerminalData, ShowsRendered}
use Rattle.ratatui_core.proofs.BufferLemmas.{ShowsPieces-bar, line-keeps}
use Rattle.ratatui_core.proofs.WidgetLemmas.{OnPart-clipped, OnPart-whole, line-on-bar}
use Rattle.std.specs.declared.alloc.AllocError.{AllocError}
use Rattle.guide.specs.declared.gauge.Gauge.{Gauge}
use Rattle.guide.specs.Gauges.{filled_of, label_pieces, PaintsGauge, RendersGauge, ShowsGauge}

pub renders-gauge : {A : Type 0} (gauge : Gauge) (area part : Rect) (old under new : BufferData) (r : Result A AllocError)
    → IsClipped area old.area part → IsStyled (bar_of (filled_of gauge part) part) gauge.style old under
    → Paints (corner part) (label_pieces gauge part under.area) r under new → OnOk r (RendersGauge gauge area old new)
    × OnErr r (ChangesWithin area old new)
renders-gauge gauge area part old under new (Ok x) is bar paints =
    let by = (line-on-bar area part (filled_of gauge part) gauge.style gauge.label old under new is bar (Ok x)
    (omega arith) paints).0 in
    (record { painted = OnPart-clipped (PaintsGauge gauge) area part old new is by.0; settled = by.1 }, tt)
renders-gauge gauge area part old under new (Err e) is bar paints =
    line-on-bar area part (filled_of gauge part) gauge.style gauge.label old under new is bar (Err e) (omega arith) paints

pub shows-gauge : {B X E : Type 0} (screen : B → Screen) (gauge : Gauge) (t : TerminalData B) (r : Result X E)
    → OnOk r (ShowsRendered screen (RendersGauge gauge) t) → OnOk r (EdgesFit t.previous.area)
    → OnOk r (0 < t.previous.area.height → ShowsGauge gauge t.previous.area (screen t.backend).grid)
shows-gauge screen gauge t (Ok x) shown edges = λ some.
    let area = t.previous.area in let r = shown.rendered in
    ShowsPieces-bar area (filled_of gauge area) gauge.style (label_pieces gauge area) r.blank t.previous
    (screen t.backend).grid edges some r.emptied (line-keeps area area.x area.width gauge.label)
    (λ wide. OnPart-whole (PaintsGauge gauge) area r.blank t.previous r.rendered.painted r.emptied.area edges wide some)
    (shown.shown (r.rendered.settled (subst (λ q. IsEmptied q r.blank) (sym r.emptied.area) r.emptied)))
shows-gauge screen gauge t (Err e) shown edges = tt
