-- What a popup makes of a buffer.
use Rattle.std.specs.Prelude.{◌≡◌, None, IfSome}
use Rattle.ratatui_core.specs.{Layout.Rect, Style.new_style, Text.TextData}
use Rattle.ratatui_core.specs.{Text.EachTextGrapheme, Text.TakesOneColumn, Buffer.BufferData}
use Rattle.widget_boxes.specs.{Boxes.IsNarrowBox, Clears.RendersClear}
use Rattle.rtui_drawing.specs.Drawings.{Drawing, put_text}
use Rattle.rtui_inside.specs.Inside.{DrawsInside, LeavesInside, IsShortInside}
use Rattle.widget_popup.specs.declared.popup.Popup.{Popup}
use Rattle.widget_popup.specs.Places.{popup_area}

-- a popup of a text, without a box and a style
pub record IsNewPopup (text : TextData) (p : Popup) : Type 0 where
  pub text_is : p.text ≡ text
  pub no_box : p.block ≡ None
  pub unstyled : p.style ≡ new_style

-- what it draws inside its box
abbrev pub popup_drawing : Popup → Rect → Drawing
popup_drawing p r = put_text p.text

-- An area is emptied, and then f makes something of the buffer.
pub record ClearsFirst (f : Rect → BufferData → BufferData → Type 0) (area : Rect) (old new : BufferData) : Type 0 where
  pub cleared : BufferData
  pub clear : RendersClear area old cleared
  pub rest : f area cleared new

-- Where the popup stands each cell is emptied, and over that its style, its box and its text. Nothing else
-- changes.
abbrev pub RendersPopup : Popup → Rect → BufferData → BufferData → Type 0
RendersPopup p area = ClearsFirst (DrawsInside p.style p.block (popup_drawing p)) (popup_area p area)

-- what a refusal leaves: the cells are emptied, and if the box takes no memory, it stands, with the rows of
-- the text above one of them
abbrev pub LeavesPopup : Popup → Rect → BufferData → BufferData → Type 0
LeavesPopup p area = ClearsFirst (LeavesInside p.style p.block (popup_drawing p)) (popup_area p area)

-- it takes no memory if its box takes none and each row that shows of its text is short
abbrev pub IsShortPopup : Popup → Rect → BufferData → Type 0
IsShortPopup p area = IsShortInside p.block (popup_drawing p) (popup_area p area)

-- each grapheme of its box and its text takes one column
pub record IsNarrowPopup (p : Popup) : Type 0 where
  pub box : IfSome p.block IsNarrowBox
  pub text : EachTextGrapheme TakesOneColumn p.text
