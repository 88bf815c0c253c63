-- A chart of short texts takes no memory but for grids.
use Rattle.std.proofs.Common.{◌≡◌, true, false, List, [], ⊎_elim, ◌⊎◌, Result, Err}
use Rattle.std.specs.Prelude.{⊤}
use Rattle.std.specs.declared.alloc.AllocError.{AllocError}
use Rattle.ratatui_core.specs.{Layout.Rect, Style.Style, Buffer.BufferData}
use Rattle.rtui_drawing.specs.Drawings.{Thing, Drawing, nothing, put, over, ◌before◌, DrawsAll, IsStopped, IsShortThing}
use Rattle.rtui_drawing.specs.{Cuts.cut_from, Drawings.IsShortDrawing}
use Rattle.rtui_drawing.proofs.DrawingLemmas.{done-short}
use Rattle.widget_boxes.specs.{Lines.IsShortTitle}
use Rattle.widget_chart.specs.declared.{dataset.Dataset.Dataset, chart.Chart.Chart}
use Rattle.widget_chart.specs.{ChartLayouts.margins_of, ChartLayouts.graph_in, ChartParts.axes, ChartParts.all_dotted}
use Rattle.widget_chart.specs.Plots.{names_of, plot_drawing, style_at_first, StopsPlot}
use Rattle.widget_chart.specs.ShortCharts.{HasShortName, HasShortWords, StopsAtGrid}
use Rattle.widget_chart.proofs.EachThingLemmas.{EachThing, axes-each, over-each}

module _ (s : BufferData) where
  -- a thing that takes no memory, wherever it stands
  abbrev IsShortAnywhere : Thing → Type 0
  IsShortAnywhere thing = (r : Rect) → IsShortThing s.area thing r

  each-short : (d : Drawing) (r : Rect) → EachThing IsShortAnywhere d → IsShortDrawing s.area d r
  each-short nothing r each = tt
  each-short (put thing) r each = each r
  each-short (over c d) r each = each-short d (cut_from c r) each
  each-short (a before b) r each = (each-short a r each.0, each-short b r each.1)

  axes-short : (c : Chart) (r : Rect) → HasShortWords c
      → IsShortDrawing s.area (axes c.x_axis c.y_axis (margins_of c.x_axis c.y_axis r) r) r
  axes-short c r short =
      let m = margins_of c.x_axis c.y_axis r in
      each-short (axes c.x_axis c.y_axis m r) r (axes-each IsShortAnywhere IsShortTitle (λ _ r. tt) (λ l is r. is r s)
      (λ _ _ one is r p cell. is) c.x_axis c.y_axis m r short.x_axis short.y_axis)

  over-short : (c : Chart) (style : Style) (g : Rect) → HasShortWords c → IsShortDrawing s.area (names_of c style g) g
  over-short c style g short =
      each-short (names_of c style g) g (over-each IsShortAnywhere IsShortTitle (λ _ r. tt) (λ l is r. is r s)
      (λ _ _ one is r p cell. is) HasShortName c style g short.x_axis short.y_axis (λ d is. is) short.names)

  no-dots : (c : Chart) (g : Rect) (ds : List Dataset) → ds ≡ [] → IsShortDrawing s.area (all_dotted c g ds) g
  no-dots c g ds none = rw none tt

  pub short-plot : (c : Chart) (style : Style) (r : Rect) → HasShortWords c → c.datasets.items ≡ []
      → IsShortDrawing s.area (plot_drawing c style r) r
  short-plot c style r short none =
      let g = graph_in (margins_of c.x_axis c.y_axis r) r in
      (axes-short c r short, (no-dots c g c.datasets.items none, over-short c style g short))

-- what is short isn't refused
not-stopped : {P : Type 0} (d : Drawing) (r : Rect) (old new : BufferData) → IsShortDrawing old.area d r → IsStopped d r old new
    → P
not-stopped d r old new short stopped =
    let e : AllocError = record {} in
    let result : Result ⊤ AllocError = Err e in
    let no : false ≡ true = done-short {d = d} {r = r} {old = old} {new = new} result short
    (record { ok = tt; err = stopped }) in
    absurd (cc)

pub grid-stops : (c : Chart) (r : Rect) (old new : BufferData) → HasShortWords c → StopsPlot c r old new → StopsAtGrid c r old new
grid-stops c r old new short is =
    let m = margins_of c.x_axis c.y_axis r in
    let g = graph_in m r in
    let style = style_at_first r old in
    let around = axes c.x_axis c.y_axis m r in
    let dots = all_dotted c g c.datasets.items in
    let over_dots = names_of c style g in
    ⊎_elim
    (λ (one : IsStopped around r old new). not-stopped around r old new (axes-short old c r short) one)
    (λ (two : (mid : BufferData) × DrawsAll around r old mid × (IsStopped dots g mid new ⊎ ((end : BufferData) × DrawsAll dots g mid end × IsStopped over_dots g end new))).
    ⊎_elim
    (λ (grid : IsStopped dots g two.0 new). record { drawn = two.0; around = two.1; grid = grid })
    (λ (last : (end : BufferData) × DrawsAll dots g two.0 end × IsStopped over_dots g end new).
    not-stopped over_dots g last.0 new (over-short last.0 c style g short) last.2)
    two.2) is
