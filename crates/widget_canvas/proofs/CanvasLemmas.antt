-- Layers of dots and labels, one after the other.
use Rattle.std.proofs.Common.{◌≡◌, ℕ, ◌-◌, ◌*◌, ◌≤◌, Bool, true, false, List, [], ◌∷◌, length, replicate}
use Rattle.std.proofs.Common.{refl, ap, sym, subst, ◌∙◌, arith, Result, Ok, Err, OnOk, OnErr}
use Rattle.std.specs.declared.alloc.AllocError.{AllocError}
use Rattle.std.proofs.lemmas.List.{length-replicate}
use Rattle.ratatui_core.specs.{Layout.Rect, Layout.IsInside, Text.LineData, Buffer.BufferData, Buffer.ChangesEach}
use Rattle.ratatui_core.specs.{Widgets.ChangesWithin, Widgets.RendersLine}
use Rattle.ratatui_core.proofs.{BufferLemmas.within-wider, WidgetLemmas.within-then}
use Rattle.widget_boxes.specs.{Boxes.IsBoxArea, Titles.InTurn}
use Rattle.widget_boxes.proofs.FrameLemmas.{lies-in}
use Rattle.rtui_dots.specs.declared.{scale.Scale.Scale, painter.DotCell.DotCell, painter.Painter.Painter, drawing.Drawing.Drawing}
use Rattle.rtui_dots.specs.Grids.{Dot, empty_grid, no_dots, with_dots, SetsDots}
use Rattle.rtui_dots.specs.Layers.{is_layer, drawn_dots, with_first, layers_of}
use Rattle.widget_canvas.specs.Canvases.{shown_at, ShowsDots, ShowsLayers, label_from}
use Rattle.widget_canvas.specs.Inner.{DrawsNext}
use Rattle.rtui_dots.proofs.GridLemmas.{with_dots-append, with_dots-length}

-- layers of which the first one begins with the dots of a grid
abbrev pub ShowsFrom : Scale → Rect → List DotCell → List (List Dot) → BufferData → BufferData → Type 0
ShowsFrom s r cells [] old new = ⊥
ShowsFrom s r cells (layer ∷ layers) old new = InTurn (ShowsDots s r layer cells) (ShowsLayers s r layers) old new

module _ (s : Scale) (r : Rect) where
  pub layers-from : (layers : List (List Dot)) (old new : BufferData) → ShowsFrom s r (empty_grid s) layers old new
      → ShowsLayers s r layers old new
  layers-from [] old new none = absurd none
  layers-from (layer ∷ layers) old new all = all

  first-from : (cells : List DotCell) (ds : List Dot) (layers : List (List Dot)) (old new : BufferData)
      → ShowsFrom s r (with_dots s ds cells) layers old new → ShowsFrom s r cells (with_first ds layers) old new
  first-from cells ds [] old new none = absurd none
  first-from cells ds (layer ∷ layers) old new all = record {
    between = all.between;
    first = subst (λ cs. ChangesEach r (shown_at s r cs) old all.between) (sym (with_dots-append s ds layer cells)) all.first;
    second = all.second;
  }

  pub draw-step : (cells : List DotCell) (d : Drawing) (ds : List Drawing) (old new : BufferData) → is_layer d ≡ false
      → ShowsFrom s r (with_dots s (drawn_dots d s) cells) (layers_of s ds) old new
      → ShowsFrom s r cells (layers_of s (d ∷ ds)) old new
  draw-step cells d ds old new is all = rw is (first-from cells (drawn_dots d s) (layers_of s ds) old new all)

  pub layer-step : (cells : List DotCell) (d : Drawing) (ds : List Drawing) (old mid new : BufferData) → is_layer d ≡ true
      → ChangesEach r (shown_at s r cells) old mid → ShowsFrom s r (empty_grid s) (layers_of s ds) mid new
      → ShowsFrom s r cells (layers_of s (d ∷ ds)) old new
  layer-step cells d ds old mid new is shown all =
      rw is (record { between = mid; first = shown; second = layers-from (layers_of s ds) mid new all })

  pub last-step : (cells : List DotCell) (old new : BufferData) → ChangesEach r (shown_at s r cells) old new
      → ShowsFrom s r cells (layers_of s []) old new
  last-step cells old new shown = record { between = new; first = shown; second = refl }

-- what is drawn so far: of all drawings, these are left, and a painter has the dots of the last layer
pub record IsDrawn (s : Scale) (r : Rect) (all left : List Drawing) (start : BufferData) (p : Painter)
    (buf : BufferData) : Type 0 where
  pub scale : p.scale ≡ s
  pub count : length p.cells.items ≡ s.columns * s.rows
  pub within : ChangesWithin r start buf
  pub rest : (new : BufferData) → ShowsFrom s r p.cells.items (layers_of s left) buf new
      → ShowsFrom s r (empty_grid s) (layers_of s all) start new

module _ (s : Scale) (r : Rect) (all : List Drawing) (start : BufferData) where
  pub begun : (p : Painter) → p.scale ≡ s → p.cells.items ≡ empty_grid s → IsDrawn s r all all start p start
  begun p scale cells = record {
    scale = scale;
    count = ap length cells ∙ length-replicate (s.columns * s.rows) no_dots;
    within = record { same_area = refl; same_room = refl; outside = λ at in_own out. refl };
    rest = λ new shows. subst (λ cs. ShowsFrom s r cs (layers_of s all) start new) cells shows;
  }

  pub drawn : (left ds : List Drawing) (d : Drawing) (p q : Painter) (buf mid : BufferData) → IsDrawn s r all left start p buf
      → DrawsNext d r p q buf mid → ChangesWithin r buf mid → left ≡ d ∷ ds → IsDrawn s r all ds start q mid
  drawn left ds d p q buf mid was next within e = record {
    scale = next.scale ∙ was.scale;
    count = count (is_layer d) refl;
    within = within-then r start buf mid was.within within;
    rest = λ new shows. was.rest new (rw e (rest (is_layer d) refl new shows));
  }
    where
      count : (t : Bool) → is_layer d ≡ t → length q.cells.items ≡ s.columns * s.rows
      count true is = ap length (next.clears is) ∙ length-replicate (length p.cells.items) no_dots ∙ was.count
      count false is = ap length (next.paints is).cells ∙ with_dots-length p.scale (drawn_dots d p.scale) p.cells.items
          ∙ was.count

      rest : (t : Bool) → is_layer d ≡ t → (new : BufferData) → ShowsFrom s r q.cells.items (layers_of s ds) mid new
          → ShowsFrom s r p.cells.items (layers_of s (d ∷ ds)) buf new
      rest true is new shows =
          let cells : q.cells.items ≡ empty_grid s = next.clears is ∙ ap (λ n. replicate n no_dots) was.count in
          let shown = subst (λ z. ChangesEach r (shown_at z r p.cells.items) buf mid) was.scale (next.shows is) in
          layer-step s r p.cells.items d ds buf mid new is shown
          (subst (λ cs. ShowsFrom s r cs (layers_of s ds) mid new) cells shows)
      rest false is new shows =
          let cells : q.cells.items ≡ with_dots s (drawn_dots d s) p.cells.items = (next.paints is).cells
          ∙ ap (λ z. with_dots z (drawn_dots d z) p.cells.items) was.scale in
          let from = subst (λ cs. ShowsFrom s r cs (layers_of s ds) mid new) cells shows in
          draw-step s r p.cells.items d ds buf new is (subst (λ b. ShowsFrom s r (with_dots s (drawn_dots d s) p.cells.items)
          (layers_of s ds) b new) (next.same is) from)

  pub ended : (left : List Drawing) (p : Painter) (buf new : BufferData) → IsDrawn s r all left start p buf
      → ChangesEach r (shown_at p.scale r p.cells.items) buf new → left ≡ [] → ShowsLayers s r (layers_of s all) start new
  ended left p buf new was shown e =
      let by_scale = subst (λ z. ChangesEach r (shown_at z r p.cells.items) buf new) was.scale shown in
      layers-from s r (layers_of s all) start new (was.rest new (rw e (last-step s r p.cells.items buf new by_scale)))

-- a shape is drawn, or a layer is shown
module _ (d : Drawing) (r : Rect) (p q : Painter) (t : Bool) (tested : t ≡ is_layer d) where
  pub shape-drawn : (buf : BufferData) → t ≡ false → SetsDots (drawn_dots d p.scale) p q → DrawsNext d r p q buf buf
  shape-drawn buf is paints = record {
    shows = λ layer. absurd (let no : true ≡ false = sym layer ∙ sym tested ∙ is in (cc));
    clears = λ layer. absurd (let no : true ≡ false = sym layer ∙ sym tested ∙ is in (cc));
    paints = λ _. paints;
    same = λ _. refl;
    scale = paints.scale;
  }

  pub layer-drawn : (old new : BufferData) → t ≡ true → ChangesEach r (shown_at p.scale r p.cells.items) old new
      → q.cells.items ≡ replicate (length p.cells.items) no_dots → q.scale ≡ p.scale → DrawsNext d r p q old new
  layer-drawn old new is shown clear scale = record {
    shows = λ _. shown;
    clears = λ _. clear;
    paints = λ shape. absurd (let no : true ≡ false = sym is ∙ tested ∙ shape in (cc));
    same = λ shape. absurd (let no : true ≡ false = sym is ∙ tested ∙ shape in (cc));
    scale = scale;
  }

pub any-ok : {A P : Type 0} (result : Result A AllocError) → P → OnOk result P
any-ok (Ok x) p = p
any-ok (Err e) p = tt

-- a label stands in its area
pub label-inside : (r : Rect) (column row : ℕ) (line : LineData) → IsBoxArea r → column ≤ r.width - 1 → row ≤ r.height - 1
    → IsInside (label_from r column row line) r
label-inside r column row line is across down =
    let wide = is.columns in let high = is.rows in
    lies-in r (label_from r column row line) is (omega arith) (omega arith) (omega arith) (omega arith)

-- a line in a part, or memory is refused
pub line-within : {A : Type 0} (result : Result A AllocError) (line : LineData) (part r : Rect) (old new : BufferData)
    → IsInside part r → OnOk result (RendersLine line part old new) → OnErr result (ChangesWithin part old new)
    → ChangesWithin r old new
line-within (Ok x) line part r old new inside ok err = within-wider part r old new inside ok.within
line-within (Err e) line part r old new inside ok err = within-wider part r old new inside err
