-- Words of the lemmas on drawings: narrow ones, and what is left to draw.
use Rattle.std.specs.Prelude.{◌≤◌, All, ⊤}
use Rattle.rtui_geometry.specs.{declared.rect.Rect.Rect, declared.position.Position.Position}
use Rattle.rtui_cell.specs.{declared.cell.Cell.Cell, Width.text_width}
use Rattle.rtui_text.specs.Graphemes.{TakesOneColumn}
use Rattle.rtui_buffer.specs.BufferData.{BufferData}
use Rattle.rtui_widgets.specs.{Plain.IsPlain, Graphemes.EachLineGrapheme, Graphemes.EachTextGrapheme}
use Rattle.rtui_drawing.specs.Drawings.{Thing, a_style, some_pieces, a_line, a_text, a_change}
use Rattle.rtui_drawing.specs.Drawings.{Drawing, nothing, put, over, ◌before◌, DrawsAll, IsStopped}

-- a thing whose symbols take at most one column each
abbrev pub IsNarrowThing : Thing → Type 0
IsNarrowThing (a_style s) = ⊤
IsNarrowThing (some_pieces ps) = All (λ p. text_width p.symbol ≤ 1) ps
IsNarrowThing (a_line l) = EachLineGrapheme TakesOneColumn l
IsNarrowThing (a_text t) = EachTextGrapheme TakesOneColumn t
IsNarrowThing (a_change f is_light) = (p : Position) (c : Cell) → IsPlain c → IsPlain (f p c)

-- a drawing of such things alone
abbrev pub IsNarrowDrawing : Drawing → Type 0
IsNarrowDrawing nothing = ⊤
IsNarrowDrawing (put thing) = IsNarrowThing thing
IsNarrowDrawing (over c d) = IsNarrowDrawing d
IsNarrowDrawing (a before b) = IsNarrowDrawing a × IsNarrowDrawing b

-- to draw what is left in an area on what stands now is to draw all in another on what stood before, also if
-- memory is refused
pub record Continues (left : Drawing) (r : Rect) (all : Drawing) (whole : Rect)
    (old now : BufferData) : Type 0 where
  pub ok : (new : BufferData) → DrawsAll left r now new → DrawsAll all whole old new
  pub err : (new : BufferData) → IsStopped left r now new → IsStopped all whole old new
