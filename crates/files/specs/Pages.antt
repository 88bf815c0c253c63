-- What a browser paints: a text in each row.
use Rattle.std.specs.Prelude.{◌≡◌, ◌≤◌, ℕ, zero, suc, ◌+◌, ◌-◌, ◌==◌, ◌&&◌, min, nat_lt, if◌then◌else◌}
use Rattle.std.specs.Prelude.{List, Option, Some, None, Bool, true, false}
use Rattle.ratatui_core.specs.{Layout.Rect, Layout.Position, Layout.EdgesFit, Style.Style, Style.new_style}
use Rattle.ratatui_core.specs.Style.{with_modifier, modifier_of}
use Rattle.ratatui_core.specs.Buffer.{BufferData, PaintsPieces, IsPlainFrom, IsSettledBuffer, text_pieces}
use Rattle.ratatui_core.specs.Buffer.{position_of}
use Rattle.ratatui_core.specs.Widgets.{ChangesWithin, OnPart}
use Rattle.widget_boxes.specs.Titles.{InTurn}
use Rattle.files.specs.declared.browser.Browser.{Browser}
use Rattle.files.specs.declared.browser.Mode.{Mode}
use Rattle.files.specs.declared.browser.Mode.TheVariants.{Renaming, Making, Pasting, Seeking, Going, Completing}
use Rattle.ratatui_core.specs.Buffer.{text_columns}
use Rattle.ratatui_core.specs.Terminal.{TerminalData}
use Rattle.ratatui_ansi.specs.Backend.{BackendState}
use Rattle.ratatui_app.specs.Glass.{StandsOnGlass}
use Rattle.files.specs.Texts.{text_in, entry_at, place_in_row, status_told}
use Rattle.files.specs.Columns.{above_width, folder_width, ahead_start, shows_entries, is_parted, above_text, is_own_row, ahead_text}

-- a text in so many columns of a row, from one on
abbrev pub PaintsInColumns : ℕ → ℕ → ℕ → Style → List ℕ → BufferData → BufferData → Type 0
PaintsInColumns x y width style text = PaintsPieces (position_of (x, y)) (text_pieces width style text)

-- bold and reversed; 1 is `BOLD`, and 64 is `REVERSED`
abbrev pub bold : Style
bold = with_modifier (modifier_of 1) new_style

abbrev pub reversed_row : Style
reversed_row = with_modifier (modifier_of 64) new_style

-- the title is bold, and the entry that is selected reversed
abbrev pub style_in : ℕ → ℕ → Browser → Style
style_in k height b =
    if k == height - 1 then new_style
    else if k == 0 then bold
    else if shows_entries b.mode && (place_in_row k b == b.selected) then reversed_row
    else new_style

-- a row of one column
abbrev pub PaintsWhole : Browser → Rect → ℕ → BufferData → BufferData → Type 0
PaintsWhole b r k = PaintsInColumns r.x (r.y + k) r.width (style_in k r.height b) (text_in k r.width r.height b)

-- the three columns of a row: the folder above, in which the folder's own row is reversed, the folder, and what is
-- selected
abbrev pub above_style : ℕ → ℕ → Browser → Style
above_style k height b = if is_own_row k height b then reversed_row else new_style

abbrev pub PaintsAbove : Browser → Rect → ℕ → BufferData → BufferData → Type 0
PaintsAbove b r k =
    PaintsInColumns r.x (r.y + k) (above_width r.width - 1) (above_style k r.height b) (above_text k r.height b)

abbrev pub PaintsFolder : Browser → Rect → ℕ → BufferData → BufferData → Type 0
PaintsFolder b r k =
    PaintsInColumns (r.x + above_width r.width) (r.y + k) (folder_width r.width - 1) (style_in k r.height b)
    (entry_at (folder_width r.width - 1) (place_in_row k b) b)

abbrev pub PaintsAhead : Browser → Rect → ℕ → BufferData → BufferData → Type 0
PaintsAhead b r k =
    PaintsInColumns (r.x + ahead_start r.width) (r.y + k) (r.width - ahead_start r.width) new_style (ahead_text k b)

abbrev pub PaintsColumns : Browser → Rect → ℕ → BufferData → BufferData → Type 0
PaintsColumns b r k = InTurn (PaintsAbove b r k) (InTurn (PaintsFolder b r k) (PaintsAhead b r k))

-- a row
abbrev pub PaintsRowIf : Bool → Browser → Rect → ℕ → BufferData → BufferData → Type 0
PaintsRowIf true b r k = PaintsColumns b r k
PaintsRowIf false b r k = PaintsWhole b r k

abbrev pub PaintsListRow : Browser → Rect → ℕ → BufferData → BufferData → Type 0
PaintsListRow b r k = PaintsRowIf (is_parted k r.width r.height b) b r k

-- the first rows
unfoldable pub PaintsFirstRows : Browser → Rect → ℕ → BufferData → BufferData → Type 0
PaintsFirstRows b r zero old new = new ≡ old
PaintsFirstRows b r (suc k) old new = InTurn (PaintsFirstRows b r k) (PaintsListRow b r k) old new

abbrev pub PaintsAllRows : Browser → Rect → BufferData → BufferData → Type 0
PaintsAllRows b r = PaintsFirstRows b r r.height

-- a browser over the part of an area that a buffer has; of a buffer of plain cells comes one that a screen can
-- show
pub record PaintsBrowser (b : Browser) (area : Rect) (old new : BufferData) : Type 0 where
  pub within : ChangesWithin area old new
  pub page : OnPart (PaintsAllRows b) area old new
  pub settled : EdgesFit old.area → IsPlainFrom 0 old → IsSettledBuffer new

-- the cursor stands after so many columns of the last row, if the row goes so far
abbrev pub cursor_at_column : ℕ → Rect → Option Position
cursor_at_column column r =
    if nat_lt 0 r.height && nat_lt column r.width then Some (record {
      x = min (r.x + column) 65535;
      y = min (r.y + (r.height - 1)) 65535;
    })
    else None

abbrev pub cursor_in_mode : Mode → Browser → Rect → Option Position
cursor_in_mode Renaming b r = cursor_at_column b.column r
cursor_in_mode Making b r = cursor_at_column b.column r
cursor_in_mode Pasting b r = cursor_at_column b.column r
cursor_in_mode Seeking b r = cursor_at_column b.column r
cursor_in_mode Going b r = cursor_at_column b.column r
cursor_in_mode Completing b r = cursor_at_column b.column r
cursor_in_mode _ b r = None

-- the cursor is shown while a name or a path is typed
abbrev pub browser_cursor : Browser → Rect → Option Position
browser_cursor b r = cursor_in_mode b.mode b r

-- each terminal that has read what was sent shows the browser, and has columns for all that its last row
-- tells
pub record ShowsWhole {W : Type 0} (b : Browser) (t : TerminalData (BackendState W)) : Type 0 where
  pub shown : StandsOnGlass (PaintsBrowser b) (browser_cursor b) t
  pub whole : text_columns (status_told b) ≤ t.viewport_area.width
