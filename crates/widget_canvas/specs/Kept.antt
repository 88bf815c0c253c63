-- A canvas whose grid is kept from one rendering to the next.
use Rattle.std.specs.Prelude.{◌≡◌, ℕ, ◌*◌, ◌<◌, All, length, IsSomeAnd}
use Rattle.ratatui_core.specs.{Layout.Rect, Layout.intersected, Buffer.BufferData, Style.new_style}
use Rattle.widget_boxes.specs.{Framed.RendersStateInFrame, Framed.IsShortFrame, Framed.inner_if, Lines.IsShortTitle}
use Rattle.rtui_dots.specs.declared.{scale.Scale.Scale, painter.Painter.Painter}
use Rattle.widget_canvas.specs.declared.{label.Label.Label, canvas.Canvas.Canvas, state.CanvasState.CanvasState}
use Rattle.widget_canvas.specs.Canvases.{scale_of, ShowsCanvas}

-- a grid has as many cells as a scale says
abbrev pub HasCells : Scale → Painter → Type 0
HasCells s p = length p.cells.items ≡ s.columns * s.rows

-- a state has a grid of as many cells as a scale says
abbrev pub HasGrid : CanvasState → Scale → Type 0
HasGrid t s = IsSomeAnd t.grid (HasCells s)

-- what a canvas shows inside its box; the state has the grid for it then
pub record ShowsKept (c : Canvas) (s t : CanvasState) (r : Rect) (old new : BufferData) : Type 0 where
  pub shown : ShowsCanvas c r old new
  pub grid : HasGrid t (scale_of c r)

-- A canvas over the part of an area that a buffer has, as without a state (RendersCanvas), from one state to the
-- next: that has the grid for what is inside the box, if there are cells, and is the same if there are none.
abbrev pub RendersKept : Canvas → CanvasState → CanvasState → Rect → BufferData → BufferData → Type 0
RendersKept c = RendersStateInFrame new_style c.block (ShowsKept c)

-- no label takes memory, wherever it stands
abbrev pub HasShortLabels : Canvas → Type 0
HasShortLabels c = All (λ (l : Label). IsShortTitle l.line) c.labels.now

-- what is inside the box of a canvas over an area of a buffer, and the scale of the grid for it
abbrev pub inside_of : Canvas → Rect → BufferData → Rect
inside_of c area b = inner_if c.block (intersected area b.area)

abbrev pub grid_scale : Canvas → Rect → BufferData → Scale
grid_scale c area b = scale_of c (inside_of c area b)

-- a canvas takes no memory: neither its box nor its labels do, and the state has the grid for what is inside the
-- box, if there are cells
pub record IsShortCanvas (c : Canvas) (s : CanvasState) (area : Rect) (b : BufferData) : Type 0 where
  pub frame : IsShortFrame c.block b
  pub labels : HasShortLabels c
  pub grid : 0 < (inside_of c area b).width → 0 < (inside_of c area b).height → HasGrid s (grid_scale c area b)
