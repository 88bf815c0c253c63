-- A field in an area: what it shows, and what it changes.
use Rattle.std.specs.Prelude.{◌≡◌, ℕ, ◌+◌, ◌-◌, ◌<◌, List, [], ◌∷◌, drop, Option, Some, None, true}
use Rattle.std.specs.Prelude.{encode_utf8}
use Rattle.std.specs.List.{flat_map}
use Rattle.unicode_segmentation.specs.Grapheme.{graphemes}
use Rattle.ratatui_core.specs.{Layout.Rect, Layout.Position, Style.Style, Style.new_style}
use Rattle.ratatui_core.specs.Buffer.{BufferData, PaintsPieces, AreShort, text_pieces, columns, position_of}
use Rattle.ratatui_core.specs.Text.{EachGrapheme, TakesOneColumn}
use Rattle.widget_boxes.specs.Framed.{RendersStateInFrame, IsShortFrame}
use Rattle.text_field.specs.Field.{FieldData, field_text}
use Rattle.widget_field.specs.declared.input.Input.{Input}
use Rattle.widget_field.specs.Views.{IsView, columns_in}

-- no box, no style, no placeholder, no mask
pub record IsNewInput (input : Input) : Type 0 where
  pub no_box : input.block ≡ None
  pub no_mask : input.mask ≡ None
  pub unstyled : input.style ≡ new_style
  pub no_placeholder : input.placeholder.now ≡ []

-- a text painted in a style from a place on, as far as these columns go
abbrev pub PaintsTextAt : ℕ → ℕ → ℕ → Style → List ℕ → BufferData → BufferData → Type 0
PaintsTextAt x y max style text old new = PaintsPieces (position_of (x, y)) (text_pieces max style text) old new

-- the one if a text is empty, and else the other
abbrev pub if_none : {X : Type 0} → List ℕ → X → X → X
if_none [] one other = one
if_none (b ∷ bs) one other = other

-- a mask for each of these graphemes
abbrev pub masks : ℕ → List (List ℕ) → List ℕ
masks mask gs = flat_map (λ _. encode_utf8 mask) gs

-- a text as it is shown: with a mask in place of each grapheme, if there is one
abbrev pub masked : Option ℕ → List ℕ → List ℕ
masked None text = text
masked (Some mask) text = masks mask (graphemes true text)

-- what is shown after the cursor: the text after it, or the placeholder if there is no text
abbrev pub text_behind : Input → FieldData → List ℕ
text_behind input f = if_none (field_text f) input.placeholder.now (masked input.mask f.after)

-- and in which style
abbrev pub style_behind : Input → FieldData → Style
style_behind input f = if_none (field_text f) input.placeholder_style new_style

-- A text before a cursor and what is after it in the first row of an area: the text in view, from a byte on,
-- whose graphemes are those that the view counts; the cursor in the column at the sum of its widths, which
-- lies in the area; and what is after, as far as the row goes. Each grapheme stands there whole or not at all.
pub record ShowsParts (text : List ℕ) (first : ℕ) (behind : List ℕ) (style : Style) (r : Rect) (start column : ℕ)
    (old new : BufferData) : Type 0 where
  pub view : IsView (r.width - 1) (columns_in behind) text first start
  pub shown : graphemes true (drop start text) ≡ drop view.count (graphemes true text)
  pub cursor : column ≡ r.x + columns (text_pieces (r.width - 1) new_style (drop start text))
  pub in_area : column < r.x + r.width
  pub between : BufferData
  pub front : PaintsTextAt r.x r.y (r.width - 1) new_style (drop start text) old between
  pub back : PaintsTextAt column r.y (r.x + r.width - column) style behind between new

-- A field in the first row of an area: its text as it is shown, in the view that goes on from the former one.
-- Nothing but the view changes of the field.
pub record ShowsField (input : Input) (f g : FieldData) (r : Rect) (old new : BufferData) : Type 0 where
  pub same : g ≡ record f { first = g.first; place = g.place }
  pub column : ℕ
  pub place : g.place ≡ Some (column, r.y)
  pub parts : ShowsParts (masked input.mask f.before) f.first (text_behind input f) (style_behind input f)
      r g.first column old new

-- a column and a row as a position, if they are known
abbrev pub position_if : Option (ℕ × ℕ) → Option Position
position_if None = None
position_if (Some place) = Some (position_of place)

-- no piece of a text takes memory, in however many columns it is painted
abbrev pub IsShortIn : Style → List ℕ → Type 0
IsShortIn style text = (room : ℕ) → AreShort (text_pieces room style text)

-- nothing of a field takes memory where it is shown as it is
pub record IsShortText (input : Input) (f : FieldData) : Type 0 where
  pub unmasked : input.mask ≡ None
  pub before : IsShortIn new_style f.before
  pub behind : IsShortIn (style_behind input f) (text_behind input f)

-- nor does the box that it stands in
pub record IsShortInput (input : Input) (f : FieldData) (s : BufferData) : Type 0 where
  pub frame : IsShortFrame input.block s
  pub text : IsShortText input f

-- whatever is shown of a field takes one column for each grapheme
pub record HasNarrowText (input : Input) (f : FieldData) : Type 0 where
  pub before : EachGrapheme TakesOneColumn (masked input.mask f.before)
  pub behind : EachGrapheme TakesOneColumn (text_behind input f)

-- a field whose cursor is not known to stand anywhere
abbrev pub hidden : FieldData → FieldData
hidden f = record f { place = None }

-- A field in its style and its box, over the part of an area that a buffer has. Where no cells are inside, nothing
-- of the field changes but that its cursor stands nowhere.
abbrev pub RendersInput : Input → FieldData → FieldData → Rect → BufferData → BufferData → Type 0
RendersInput input f g = RendersStateInFrame input.style input.block (ShowsField input) (hidden f) g
