-- A style and a box over a part of a buffer, and what is left to a widget inside.
use Rattle.std.specs.Prelude.{◌≡◌, ℕ, ◌⊎◌, ◌<◌, Option, Some, None, IfSome, ⊤}
use Rattle.ratatui_core.specs.{Layout.Rect, Layout.IsInside, Layout.intersected, Style.Style}
use Rattle.ratatui_core.specs.{Buffer.BufferData, Buffer.IsStyled}
use Rattle.ratatui_core.specs.{Widgets.ChangesWithin, Widgets.IsClipped, Widgets.OnPart}
use Rattle.widget_boxes.specs.declared.block.Block.{Block}
use Rattle.widget_boxes.specs.Boxes.{inner_of, columns_around, rows_around, RendersBlock, IsBoxArea, HasShortSymbols}
use Rattle.widget_boxes.specs.Boxes.{AreShortCells, AreShortAnywhere}

-- what is inside the box, if there is one
abbrev pub inner_if : Option Block → Rect → Rect
inner_if None r = r
inner_if (Some b) r = inner_of b r

-- how many columns the box takes left and right of what is inside, if there is one
abbrev pub columns_around_if : Option Block → ℕ
columns_around_if None = 0
columns_around_if (Some b) = columns_around b

-- how many rows the box takes above and below what is inside, if there is one
abbrev pub rows_around_if : Option Block → ℕ
rows_around_if None = 0
rows_around_if (Some b) = rows_around b

-- the box is rendered, if there is one
abbrev pub RendersIfBox : Option Block → Rect → BufferData → BufferData → Type 0
RendersIfBox None r old new = new ≡ old
RendersIfBox (Some b) r old new = RendersBlock b r old new

-- a style over a part, and a box on it, if there is one
pub record IsFramed (style : Style) (block : Option Block) (part : Rect) (old new : BufferData) : Type 0 where
  pub laid : BufferData
  pub styled : IsStyled part style old laid
  pub boxed : RendersIfBox block part laid new

-- a rectangle without positions
abbrev pub IsBare : Rect → Type 0
IsBare r = (r.width ≡ 0) ⊎ (r.height ≡ 0)

-- what is inside a part, if it has cells
pub record IsInner (block : Option Block) (part r : Rect) : Type 0 where
  pub value : r ≡ inner_if block part
  pub some : IsBoxArea r
  pub inside : IsInside r part

-- a style and a box over the part of an area that a buffer has, without cells inside
abbrev pub FramesAlone : Style → Option Block → Rect → BufferData → BufferData → Type 0
FramesAlone style block =
    OnPart (λ part old new. IsFramed style block part old new × IsBare (inner_if block part))

-- a style and a box over the part of an area that a buffer has, with cells inside
pub record FramesInside (style : Style) (block : Option Block) (area : Rect) (old new : BufferData)
    (inner : Rect) : Type 0 where
  pub part : Rect
  pub clip : IsClipped area old.area part
  pub framed : IsFramed style block part old new
  pub within : ChangesWithin part old new
  pub inside : IsInner block part inner

-- A style and a box over a part, and what f does inside, if there are cells. It leads from one state to the
-- next; without cells the state stays.
pub record InFrame {S : Type 0} (style : Style) (block : Option Block)
    (f : S → S → Rect → BufferData → BufferData → Type 0) (s t : S) (part : Rect)
    (old new : BufferData) : Type 0 where
  pub framed : BufferData
  pub frame : IsFramed style block part old framed
  pub none : IsBare (inner_if block part) → (new ≡ framed) × (t ≡ s)
  pub inside : 0 < (inner_if block part).width → 0 < (inner_if block part).height
      → f s t (inner_if block part) framed new

-- A widget with a state, in a style and a box, over the part of an area that a buffer has. Nothing outside
-- the area changes, and without a part the state stays.
pub record RendersStateInFrame {S : Type 0} (style : Style) (block : Option Block)
    (f : S → S → Rect → BufferData → BufferData → Type 0) (s t : S) (area : Rect)
    (old new : BufferData) : Type 0 where
  pub within : ChangesWithin area old new
  pub no_part : IsBare (intersected area old.area) → t ≡ s
  pub parts : OnPart (InFrame style block f s t) area old new

-- the same of a widget without a state
abbrev pub RendersInFrame : Style → Option Block → (Rect → BufferData → BufferData → Type 0) → Rect
    → BufferData → BufferData → Type 0
RendersInFrame style block f = RendersStateInFrame {S = ⊤} style block (λ _ _. f) tt tt

-- neither a title nor a symbol of a box takes memory, wherever it stands
pub record IsShortBox (b : Block) : Type 0 where
  pub titles : AreShortAnywhere b
  pub symbols : HasShortSymbols b

-- the box takes no memory, if there is one, nor do the symbols of the cells
pub record IsShortFrame (block : Option Block) (s : BufferData) : Type 0 where
  pub box : IfSome block IsShortBox
  pub cells : AreShortCells s
