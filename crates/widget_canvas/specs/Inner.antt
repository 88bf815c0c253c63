-- Words that only private contracts use: they follow the code.
use Rattle.std.specs.Prelude.{◌≡◌, true, false, length, replicate}
use Rattle.ratatui_core.specs.Layout.{Rect}
use Rattle.ratatui_core.specs.Buffer.{BufferData, ChangesEach}
use Rattle.rtui_dots.specs.declared.{scale.Scale.Scale, painter.Painter.Painter, drawing.Drawing.Drawing}
use Rattle.rtui_dots.specs.Grids.{no_dots, empty_grid, SetsDots}
use Rattle.rtui_dots.specs.Layers.{is_layer, drawn_dots}
use Rattle.widget_canvas.specs.Canvases.{shown_at}

-- what comes next is drawn by a grid: the beginning of a layer shows its dots and takes them away, and a
-- shape sets more of them
pub record DrawsNext (d : Drawing) (r : Rect) (p q : Painter) (old new : BufferData) : Type 0 where
  pub shows : is_layer d ≡ true → ChangesEach r (shown_at p.scale r p.cells.items) old new
  pub clears : is_layer d ≡ true → q.cells.items ≡ replicate (length p.cells.items) no_dots
  pub paints : is_layer d ≡ false → SetsDots (drawn_dots d p.scale) p q
  pub same : is_layer d ≡ false → new ≡ old
  pub scale : q.scale ≡ p.scale

-- a grid of a scale without dots
pub record IsEmptyGrid (s : Scale) (p : Painter) : Type 0 where
  pub scale : p.scale ≡ s
  pub cells : p.cells.items ≡ empty_grid s
