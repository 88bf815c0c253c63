-- What a widget draws in an area: things over it or over parts of it, one after the other.
use Rattle.std.specs.Prelude.{◌≡◌, ℕ, Bool, ◌+◌, ◌<◌, ◌≤◌, ◌⊎◌, List, Result, OnOk, OnErr, ⊤, true, false}
use Rattle.std.specs.declared.alloc.AllocError.{AllocError}
use Rattle.rtui_geometry.specs.{declared.rect.Rect.Rect, declared.position.Position.Position, Rect.corner}
use Rattle.rtui_geometry.specs.Rect.{intersected, IsInside, EdgesFit}
use Rattle.rtui_style.specs.declared.Style.{Style}
use Rattle.rtui_cell.specs.declared.cell.Cell.{Cell}
use Rattle.rtui_text.specs.Text.{LineData, TextData}
use Rattle.rtui_buffer.specs.{BufferData.BufferData, BufferData.HasRow, Painting.Piece}
use Rattle.rtui_buffer.specs.PaintedText.{PaintsPieces, PaintsFront, IsStyled, AreShort}
use Rattle.rtui_widgets.specs.Changes.{ChangesEach}
use Rattle.rtui_widgets.specs.Line.{IsShortLine}
use Rattle.rtui_widgets.specs.Rendering.{ChangesWithin, RendersLine, RendersText, IsShortRow}
use Rattle.rtui_widgets.specs.Refused.{LeavesLine, LeavesText}
use Rattle.rtui_drawing.specs.{declared.cut.Cut.Cut, Cuts.cut_from}

-- what may be put over an area: a style; pieces of text, from the area's corner on; a line, in its first row;
-- a text; or a change of each cell, with where it takes no memory
pub data Thing : Type 1 where
  a_style : Style → Thing
  some_pieces : List Piece → Thing
  a_line : LineData → Thing
  a_text : TextData → Thing
  a_change : (Position → Cell → Cell) → (Position → Cell → Type 0) → Thing

-- a drawing in an area: nothing, a thing over all of it, a drawing in a part of it, or one drawing before
-- another
pub data Drawing : Type 1 where
  nothing : Drawing
  put : Thing → Drawing
  over : Cut → Drawing → Drawing
  ◌before◌ : Drawing → Drawing → Drawing

infixr 5 ◌before◌
-- the drawing of each thing
abbrev pub put_style : Style → Drawing
put_style style = put (a_style style)

abbrev pub put_pieces : List Piece → Drawing
put_pieces ps = put (some_pieces ps)

abbrev pub put_line : LineData → Drawing
put_line line = put (a_line line)

abbrev pub put_text : TextData → Drawing
put_text text = put (a_text text)

abbrev pub put_change : (Position → Cell → Cell) → (Position → Cell → Type 0) → Drawing
put_change f is_light = put (a_change f is_light)

-- a drawing, if there is to be one
abbrev pub draw_if : Bool → Drawing → Drawing
draw_if true d = d
draw_if false d = nothing

-- pieces from the corner of an area on, and nothing outside the area
pub record WritesIn (r : Rect) (ps : List Piece) (old new : BufferData) : Type 0 where
  pub within : ChangesWithin r old new
  pub pieces : PaintsPieces (corner r) ps old new

-- what a thing makes of a buffer
abbrev pub IsPut : Thing → Rect → BufferData → BufferData → Type 0
IsPut (a_style s) r old new = IsStyled r s old new
IsPut (some_pieces ps) r old new = WritesIn r ps old new
IsPut (a_line l) r old new = RendersLine l r old new
IsPut (a_text t) r old new = RendersText t r old new
IsPut (a_change f is_light) r old new = ChangesEach r f old new

-- a drawing stands in an area, each thing over the ones before it, and nothing else changed
abbrev pub DrawsAll : Drawing → Rect → BufferData → BufferData → Type 0
DrawsAll nothing r old new = new ≡ old
DrawsAll (put thing) r old new = IsPut thing r old new
DrawsAll (over c d) r old new = DrawsAll d (cut_from c r) old new
DrawsAll (a before b) r old new = (mid : BufferData) × DrawsAll a r old mid × DrawsAll b r mid new

-- what is left of a thing for which memory was refused: a front of its graphemes, or some cells changed
abbrev pub LeavesThing : Thing → Rect → BufferData → BufferData → Type 0
LeavesThing (a_style s) r old new = ⊥
LeavesThing (some_pieces ps) r old new = PaintsFront (corner r) ps old new
LeavesThing (a_line l) r old new = LeavesLine l r old new
LeavesThing (a_text t) r old new = LeavesText t r old new
LeavesThing (a_change f is_light) r old new = ⊤

-- a thing takes no memory in a buffer of this area
abbrev pub IsShortThing : Rect → Thing → Rect → Type 0
IsShortThing own (a_style s) r = ⊤
IsShortThing own (some_pieces ps) r = AreShort ps
IsShortThing own (a_line l) r = IsShortLine l.alignment l (intersected r own).width
IsShortThing own (a_text t) r =
    let part = intersected r own in (k : ℕ) → k + 1 ≤ part.height → IsShortRow t part.width k
IsShortThing own (a_change f is_light) r = (p : Position) (c : Cell) → is_light p c

-- memory was refused for a thing, which wasn't short
pub record Refuses (thing : Thing) (r : Rect) (old new : BufferData) : Type 0 where
  pub within : ChangesWithin r old new
  pub left : LeavesThing thing r old new
  pub long : ¬ (IsShortThing old.area thing r)

-- memory was refused for one of the things, and all before it stand
abbrev pub IsStopped : Drawing → Rect → BufferData → BufferData → Type 0
IsStopped nothing r old new = ⊥
IsStopped (put thing) r old new = Refuses thing r old new
IsStopped (over c d) r old new = IsStopped d (cut_from c r) old new
IsStopped (a before b) r old new =
    IsStopped a r old new ⊎ ((mid : BufferData) × DrawsAll a r old mid × IsStopped b r mid new)

-- a call draws in an area, or memory is refused for one of the things
pub record IsDone {A : Type 0} (d : Drawing) (r : Rect) (result : Result A AllocError)
    (old new : BufferData) : Type 0 where
  pub ok : OnOk result (DrawsAll d r old new)
  pub err : OnErr result (IsStopped d r old new)

-- a drawing takes no memory in an area of a buffer
abbrev pub IsShortDrawing : Rect → Drawing → Rect → Type 0
IsShortDrawing own nothing r = ⊤
IsShortDrawing own (put thing) r = IsShortThing own thing r
IsShortDrawing own (over c d) r = IsShortDrawing own d (cut_from c r)
IsShortDrawing own (a before b) r = IsShortDrawing own a r × IsShortDrawing own b r

-- a part of a buffer's area, which may have no cells
pub record IsPartOf (own r : Rect) : Type 0 where
  pub inside : IsInside r own
  pub edges : 0 < r.width → 0 < r.height → EdgesFit r

-- a row, or a part of one, of a buffer's area
pub record IsRowIn (own row : Rect) : Type 0 where
  pub there : HasRow own row.y
  pub left : own.x ≤ row.x
  pub right : row.x + row.width ≤ own.x + own.width
  pub edge : row.x + row.width ≤ 65535
  pub down : row.y + 1 ≤ 65535
  pub high : 1 ≤ row.height
