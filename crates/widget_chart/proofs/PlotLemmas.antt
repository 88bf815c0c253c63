-- What the parts of a chart draw.
use Rattle.std.proofs.Common.{◌≡◌, ◌+◌, ◌-◌, ◌<◌, max, min, List, [], ◌∷◌, length, Option, Some, None}
use Rattle.std.proofs.Common.{arith, refl, sym, subst, ap, ◌∙◌, unwrap_or, Result, Ok, Err, OnOk, OnErr}
use Rattle.std.specs.List.{flat_map}
use Rattle.std.specs.declared.alloc.AllocError.{AllocError}
use Rattle.ratatui_core.specs.Layout.{Rect, Position, corner, intersected, HasPosition, right_edge, bottom_edge}
use Rattle.ratatui_core.specs.{Style.Style, Style.new_style, Style.with_bg, Style.Reset, Text.LineData}
use Rattle.ratatui_core.specs.Widgets.{ChangesWithin}
use Rattle.ratatui_core.specs.Buffer.{BufferData, Cell, cell_in, styled, IsStyled, ChangesEach}
use Rattle.rtui_drawing.specs.{Cuts.cut_from}
use Rattle.rtui_drawing.specs.Drawings.{Drawing, over, ◌before◌, IsDone, IsPartOf}
use Rattle.rtui_drawing.specs.declared.cut.Cut.TheVariants.{After, Above, Below}
use Rattle.rtui_drawing.proofs.{Laws.Continues, WriteLemmas.row-of}
use Rattle.rtui_drawing.proofs.DrawingLemmas.{continues-in, done-within, done-in, done-then}
use Rattle.rtui_drawing.proofs.DrawingLemmas.{drawing_steps, drawing_choices}
use Rattle.rtui_dots.specs.{declared.scale.Scale.Scale, Layers.layers_of, Layers.drawn_dots, Grids.with_dots, Grids.empty_grid}
use Rattle.widget_boxes.specs.{declared.block.Block.Block, Boxes.IsBoxArea, Framed.InFrame, Framed.FramesInside}
use Rattle.widget_boxes.proofs.FrameLemmas.{frame-filled}
use Rattle.widget_canvas.specs.{declared.canvas.Canvas.Canvas, Canvases.RendersCanvas, Canvases.ShowsCanvas}
use Rattle.widget_canvas.specs.Canvases.{shown_at}
use Rattle.widget_chart.specs.declared.{chart.Chart.Chart, dataset.Dataset.Dataset, dataset.GraphType.GraphType}
use Rattle.widget_chart.specs.declared.dataset.GraphType.TheVariants.{Scatter, Line, Bar}
use Rattle.widget_chart.specs.declared.layout.Margins.{Margins}
use Rattle.widget_chart.specs.ChartLayouts.{margins_of, graph_in, widest_line}
use Rattle.widget_chart.specs.ChartParts.{axes, drawings_of, dots_of_data, scale_of_data, dotted, dotted_cell}
use Rattle.widget_chart.specs.Legends.{with_name, under_name, below_name}
use Rattle.widget_chart.specs.Inner.{name_count, name_columns, IsCanvasOf}
use Rattle.widget_chart.specs.Plots.{plot_of, plot_drawing, style_at_first, ShowsPlot, StopsPlot, RendersChart, LeavesChart}

-- what is drawn of a chart, step by step
pub ruleset chart_steps = (drawing_steps, drawing_choices)

-- the name of a data set beside those of others
pub name-widest : (name : Option LineData) (names : List LineData)
    → widest_line (with_name name names) ≡ max (name_columns name) (widest_line names)
name-widest None names = omega arith
name-widest (Some line) names = refl

pub name-counted : (name : Option LineData) (names : List LineData)
    → length (with_name name names) ≡ name_count name + length names
name-counted None names = omega arith
name-counted (Some line) names = omega arith

-- what is left under a name
pub continues-under : {d all : Drawing} {whole : Rect} {old now : BufferData} (name : Option LineData) (r : Rect)
    → Continues (under_name name d) r all whole old now → Continues d (below_name name r) all whole old now
continues-under None r is = is
continues-under (Some line) r is = continues-in (Below 1) is

-- a buffer has the whole of a part with cells
pub part-whole : (own r : Rect) → 0 < r.width → 0 < r.height → IsPartOf own r → intersected r own ≡ r
part-whole own r w h is =
    let row = row-of is w h in
    let fit = is.edges w h in let a = fit.right in let d = fit.bottom in
    let last : Position = record { x = r.x; y = r.y + (r.height - 1) } in
    let below = is.inside last
    (record { left = omega arith; right = omega arith; top = omega arith; bottom = omega arith }) in
    let top = row.there.top in let left = row.left in let right = row.right in let bottom = below.bottom in
    let x : max r.x own.x ≡ r.x = omega arith in
    let y : max r.y own.y ≡ r.y = omega arith in
    let width : min (right_edge r) (right_edge own) - r.x ≡ r.width = omega arith in
    let height : min (bottom_edge r) (bottom_edge own) - r.y ≡ r.height = omega arith in
    rw (x, y, width, height) refl

-- a data set has one layer of dots
layers-one : (s : Scale) (d : Dataset) (t : GraphType)
    → layers_of s (drawings_of t d) ≡ flat_map (λ shape. drawn_dots shape s) (drawings_of t d) ∷ []
layers-one s d Scatter = refl
layers-one s d Line = refl
layers-one s d Bar = refl

-- two styles over an area, and a change of each cell over them
styled-changed : (r : Rect) (a b : Style) (f : Position → Cell → Cell) (old laid back new : BufferData)
    → IsStyled r a old laid → IsStyled r b laid back → ChangesEach r f back new
    → ChangesEach r (λ p c. f p (styled b (styled a c))) old new
styled-changed r a b f old laid back new first second third = record {
  area = third.area ∙ second.area ∙ first.area;
  room = third.room ∙ second.room ∙ first.room;
  inside = λ p has here.
      let in_laid : HasPosition laid.area p = subst (λ q. HasPosition q p) (sym first.area) has in
      let in_back : HasPosition back.area p = subst (λ q. HasPosition q p) (sym second.area) in_laid in
      third.inside p in_back here ∙ ap (f p) (second.inside p in_laid here ∙ ap (styled b) (first.inside p has here));
  outside = λ p has off.
      let in_laid : HasPosition laid.area p = subst (λ q. HasPosition q p) (sym first.area) has in
      let in_back : HasPosition back.area p = subst (λ q. HasPosition q p) (sym second.area) in_laid in
      third.outside p in_back off ∙ second.outside p in_laid off ∙ first.outside p has off;
}

-- the canvas of a data set over the area of the dots
module _ (ch : Chart) (d : Dataset) (c : Canvas) (g : Rect) (old new : BufferData) (of : IsCanvasOf ch d c)
    (box : IsBoxArea g) (part : IsPartOf old.area g) where
  canvas-cells : RendersCanvas c g old new → ChangesEach g (dotted_cell ch d g) old new
  canvas-cells is =
      let whole = part-whole old.area g box.columns box.rows part in
      let there = is.parts.part (subst (λ q. 0 < q.width) (sym whole) box.columns) (subst (λ q. 0 < q.height) (sym whole) box.rows) in
      let cells : InFrame new_style None (λ _ _. ShowsCanvas c) tt tt g old new =
      subst (λ q. InFrame new_style None (λ _ _. ShowsCanvas c) tt tt q old new) whole
      (subst (λ (o : Option Block). InFrame new_style o (λ _ _. ShowsCanvas c) tt tt (intersected g old.area) old new)
      of.no_box there) in
      let shows = cells.inside box.columns box.rows in
      let layers = rw (of.left, of.right, of.bottom, of.top, of.marker, of.drawn, layers-one _ d d.graph_type) at shows.layers in
      let last = rw of.unlabelled at shows.labels in
      let s = scale_of_data ch d g in
      styled-changed g new_style (with_bg (unwrap_or ch.style.bg Reset) new_style)
      (shown_at s g (with_dots s (dots_of_data s d) (empty_grid s))) old cells.framed shows.laid new
      (rw cells.frame.boxed cells.frame.styled) (rw of.background at shows.background)
      (rw (last, layers.second) layers.first)

  pub canvas-done : {A : Type 0} (result : Result A AllocError) → OnOk result (RendersCanvas c g old new)
      → OnErr result (ChangesWithin g old new) → IsDone (dotted ch g d) g result old new
  canvas-done (Ok x) ok err = record { ok = canvas-cells ok; err = tt }
  canvas-done (Err e) ok err = record {
    ok = tt;
    err = record { within = err; left = tt; long = λ short. short (corner g) (cell_in old (corner g)) };
  }

-- the axes of a chart, and then what is in the area of its dots
pub plot-done : {A B : Type 0} (c : Chart) (style : Style) (m : Margins) (r g : Rect) {x : A} {old mid new : BufferData}
    (result : Result B AllocError) → m ≡ margins_of c.x_axis c.y_axis r → g ≡ graph_in m r
    → IsDone (axes c.x_axis c.y_axis m r) r (Ok x) old mid → IsDone (plot_of c style g) g result mid new
    → IsDone (plot_drawing c style r) r result old new
plot-done c style m r g {old = old} {mid = mid} {new = new} result is at one two =
    let inside = subst (λ (q : Rect). IsDone (plot_of c style q) q result mid new) at two in
    let dots = done-in (After m.left) (cut_from (After m.left) r) result
    (done-in (Above m.below) (graph_in m r) result inside refl) refl in
    subst (λ (n : Margins). IsDone (axes c.x_axis c.y_axis n r before over (After n.left) (over (Above n.below)
    (plot_of c style (graph_in n r)))) r result old new) is (done-then result one dots)

-- a chart inside its box
pub plot-ok : {A : Type 0} (c : Chart) (style : Style) (area inner : Rect) (old framed new : BufferData)
    → FramesInside c.style c.block area old framed inner → style ≡ style_at_first inner framed
    → (result : Result A AllocError) → IsDone (plot_drawing c style inner) inner result framed new
    → OnOk result (RendersChart c area old new)
plot-ok c style area inner old framed new is at result done =
    frame-filled c.style c.block area inner old framed new is (λ _ _. ShowsPlot c) tt tt result (done-within result done)
    (rw at at done).ok

pub plot-left : {A : Type 0} (c : Chart) (style : Style) (area inner : Rect) (old framed new : BufferData)
    → FramesInside c.style c.block area old framed inner → style ≡ style_at_first inner framed
    → (result : Result A AllocError) → IsDone (plot_drawing c style inner) inner result framed new
    → OnErr result (LeavesChart c area old new)
plot-left c style area inner old framed new is at (Ok x) done = tt
plot-left c style area inner old framed new is at (Err e) done = λ _.
    frame-filled c.style c.block area inner old framed new is (λ _ _. StopsPlot c) tt tt (Ok e) (done-within (Err e) done)
    (rw at at done).err
