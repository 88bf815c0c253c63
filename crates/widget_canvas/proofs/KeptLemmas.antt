-- A canvas whose grid is kept.
use Rattle.std.proofs.Common.{◌≡◌, ℕ, ◌*◌, ◌<◌, Option, Some, None, refl, sym, subst, arith, length, Result, Ok, Err, OnOk, IsSomeAnd}
use Rattle.std.specs.declared.alloc.AllocError.{AllocError}
use Rattle.ratatui_core.specs.{Layout.Rect, Layout.intersected, Buffer.BufferData}
use Rattle.widget_boxes.specs.declared.block.Block.{Block}
use Rattle.widget_boxes.specs.Framed.{inner_if, IsShortFrame}
use Rattle.rtui_dots.specs.declared.painter.Painter.{Painter}
use Rattle.widget_canvas.specs.declared.{canvas.Canvas.Canvas, state.CanvasState.CanvasState}
use Rattle.widget_canvas.specs.{Canvases.RendersCanvas}
use Rattle.widget_canvas.specs.Kept.{RendersKept, HasGrid, HasShortLabels, IsShortCanvas, inside_of, grid_scale}

-- what is rendered with a state is rendered without one
pub kept-shows : (c : Canvas) (s t : CanvasState) (area : Rect) (old new : BufferData) → RendersKept c s t area old new
    → RendersCanvas c area old new
kept-shows c s t area old new is = record {
  within = is.within;
  no_part = λ _. refl;
  parts = record {
    nothing = is.parts.nothing;
    part = λ wide high. let there = is.parts.part wide high in record {
      framed = there.framed;
      frame = there.frame;
      none = λ bare. ((there.none bare).0, refl);
      inside = λ columns rows. (there.inside columns rows).shown;
    };
  };
}

pub kept-ok : {A : Type 0} (result : Result A AllocError) (c : Canvas) (s t : CanvasState) (area : Rect) (old new : BufferData)
    → OnOk result (RendersKept c s t area old new) → OnOk result (RendersCanvas c area old new)
kept-ok (Ok x) c s t area old new is = kept-shows c s t area old new is
kept-ok (Err e) c s t area old new is = tt

-- what is inside a box is at most as wide and as high as what the box stands in
narrower : (o : Option Block) (r : Rect) → 0 < (inner_if o r).width → 0 < r.width
narrower None r some = some
narrower (Some b) r some = omega arith

lower : (o : Option Block) (r : Rect) → 0 < (inner_if o r).height → 0 < r.height
lower None r some = some
lower (Some b) r some = omega arith

-- a rendering leaves the grid for what is inside
kept-grid : (c : Canvas) (s t : CanvasState) (area : Rect) (old new : BufferData) → RendersKept c s t area old new
    → 0 < (inside_of c area old).width → 0 < (inside_of c area old).height → HasGrid t (grid_scale c area old)
kept-grid c s t area old new is wide high =
    let part = is.parts.part (narrower c.block (intersected area old.area) wide) (lower c.block (intersected area old.area) high) in
    (part.inside wide high).grid

pub kept-short : (c d : Canvas) (s t : CanvasState) (area next : Rect) (old new b : BufferData) → RendersKept c s t area old new
    → (inside_of d next b).width ≡ (inside_of c area old).width → (inside_of d next b).height ≡ (inside_of c area old).height
    → IsShortFrame d.block b → HasShortLabels d → IsShortCanvas d t next b
kept-short c d s t area next old new b is columns rows frame labels = record {
  frame = frame;
  labels = labels;
  grid = λ wide high. as_many t.grid (inside_of c area old) (inside_of d next b) (sym columns) (sym rows)
      (kept-grid c s t area old new is (subst (λ n. 0 < n) columns wide) (subst (λ n. 0 < n) rows high));
}
  where
    as_many : (o : Option Painter) (q r : Rect) → q.width ≡ r.width → q.height ≡ r.height
        → IsSomeAnd o (λ p. length p.cells.items ≡ q.width * q.height)
        → IsSomeAnd o (λ p. length p.cells.items ≡ r.width * r.height)
    as_many None q r columns rows none = none
    as_many (Some p) q r columns rows has = rw (← columns, ← rows) has
