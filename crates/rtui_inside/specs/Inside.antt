-- What is drawn inside a style and a box.
use Rattle.std.specs.Prelude.{◌≡◌, Option}
use Rattle.ratatui_core.specs.{Layout.Rect, Layout.intersected, Style.Style, Buffer.BufferData}
use Rattle.widget_boxes.specs.{declared.block.Block.Block, Framed.RendersInFrame, Framed.RendersStateInFrame}
use Rattle.widget_boxes.specs.{Framed.IsShortFrame, Framed.inner_if}
use Rattle.rtui_drawing.specs.Drawings.{Drawing, DrawsAll, IsStopped, IsShortDrawing}

-- a style and a box over the part of an area that a buffer has, and inside, if there are cells, a drawing
abbrev pub DrawsInside : Style → Option Block → (Rect → Drawing) → Rect → BufferData → BufferData → Type 0
DrawsInside style block d = RendersInFrame style block (λ r. DrawsAll (d r) r)

-- what a refusal leaves, if the box takes no memory: style and box stand, and inside all before one thing
abbrev pub LeavesInside : Style → Option Block → (Rect → Drawing) → Rect → BufferData → BufferData → Type 0
LeavesInside style block d area old new =
    IsShortFrame block old → RendersInFrame style block (λ r. IsStopped (d r) r) area old new

-- neither the box nor what is drawn inside takes memory
pub record IsShortInside (block : Option Block) (d : Rect → Drawing) (area : Rect)
    (s : BufferData) : Type 0 where
  pub frame : IsShortFrame block s
  pub inside : let inner = inner_if block (intersected area s.area) in IsShortDrawing s.area (d inner) inner

-- the drawing of a state, which leads to the next one
pub record DrawsState {S : Type 0} (d : S → Rect → Drawing) (next : S → Rect → S) (s t : S) (r : Rect)
    (old new : BufferData) : Type 0 where
  pub drawn : DrawsAll (d s r) r old new
  pub state : t ≡ next s r

-- a style and a box, and inside the drawing of a state; without cells inside the state stays
abbrev pub DrawsStateInside : {S : Type 0} → Style → Option Block → (S → Rect → Drawing) → (S → Rect → S)
    → S → S → Rect → BufferData → BufferData → Type 0
DrawsStateInside style block d next = RendersStateInFrame style block (DrawsState d next)
