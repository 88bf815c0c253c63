-- What a pager paints: lines in rows, and the status in the last one.
use Rattle.std.specs.Prelude.{◌≡◌, ◌<◌, ℕ, zero, suc, ◌+◌, ◌-◌, ◌*◌, ◌/◌, ◌==◌, true}
use Rattle.std.specs.Prelude.{min, if◌then◌else◌, List, [], ◌∷◌, ◌++◌, length, Option, Some, None, map}
use Rattle.std.specs.Prelude.{unwrap_or, slice_get, slice_index_or, is_some, codes, ◌^◌, nat_lt, ◌&&◌}
use Rattle.std.specs.Fmt.{decimal}
use Rattle.ratatui_core.specs.{Layout.Rect, Layout.Position, Layout.EdgesFit, Style.Style, Style.new_style}
use Rattle.ratatui_core.specs.Buffer.{BufferData, PaintsPieces, IsPlainFrom, IsSettledBuffer, columns}
use Rattle.ratatui_core.specs.Buffer.{text_pieces, position_of, text_columns}
use Rattle.ratatui_core.specs.Widgets.{ChangesWithin, OnPart}
use Rattle.widget_boxes.specs.Titles.{InTurn}
use Rattle.text_field.specs.Field.{field_text}
use Rattle.pager.specs.Symbols.{LineSymbol, reversed, line_symbols, symbols_in_view, is_in_view}
use Rattle.text_places.specs.{declared.place.Place.Place, Places.places_after}
use Rattle.pager.specs.Places.{breaking, number_columns, stride, page_rows, page_place, rows_of_line, place_after}
use Rattle.pager.specs.declared.view.View.{View}
use Rattle.pager.specs.declared.styles.Run.{Run}
use Rattle.pager.specs.declared.help.TheConstants.{HELP}
use Rattle.pager.specs.declared.pager.Pager.{Pager}
use Rattle.pager.specs.declared.pager.Mode.{Mode}
use Rattle.pager.specs.declared.pager.Mode.TheVariants.{Reading, Asking, Filtering, Marking, Returning, Turning, Helping, Following}
use Rattle.pager.specs.declared.pager.Note.{Note}
use Rattle.pager.specs.declared.pager.Note.TheVariants.{Range, Bytes, Missing, Refused, Waiting}
use Rattle.pager.specs.declared.sought.Sought.{Sought}
use Rattle.pager.specs.declared.sought.Sought.TheVariants.{Plain}
use Rattle.pager.specs.Search.{numbered_line, text_of_sought}

-- ---- lines

-- a text painted in a style from a place on, as far as these columns go
abbrev pub PaintsText : ℕ → ℕ → ℕ → Style → List ℕ → BufferData → BufferData → Type 0
PaintsText x y max style text old new = PaintsPieces (position_of (x, y)) (text_pieces max style text) old new

-- a symbol painted in a row, if the view's first column stands at x
abbrev pub PaintsSymbol : ℕ → ℕ → View → LineSymbol → BufferData → BufferData → Type 0
PaintsSymbol x y v s old new = PaintsText (x + (s.column - v.left)) y s.columns s.style s.text old new

-- symbols painted one after the other
unfoldable pub PaintsSymbols : ℕ → ℕ → View → List LineSymbol → BufferData → BufferData → Type 0
PaintsSymbols x y v [] old new = new ≡ old
PaintsSymbols x y v (s ∷ ss) old new = InTurn (PaintsSymbol x y v s) (PaintsSymbols x y v ss) old new

-- what shows of a line in its runs of styles, painted in a row from x on, with what is sought marked
abbrev pub PaintsLine : ℕ → ℕ → View → Sought → List Run → List ℕ → BufferData → BufferData → Type 0
PaintsLine x y v sought runs line old new =
    PaintsSymbols x y v (symbols_in_view v (line_symbols sought runs line)) old new

-- ---- rows of a page

-- a row that shows as many columns as it has, from one on
abbrev pub view_from : ℕ → ℕ → View
view_from left width = record { left = left; limit = left + width; width = width }

-- what a row shows of its line: if lines are broken, the columns that begin in that row
abbrev pub view_at : Pager → ℕ → ℕ → View
view_at p row width =
    let left = row * stride p in
    if p.wraps then record { left = left; limit = left + min (stride p) width; width = width }
    else view_from p.left width

-- one row of a line that is broken shows a symbol, and no other one does
pub record IsInOneRow (p : Pager) (width : ℕ) (line : List ℕ) (s : LineSymbol) : Type 0 where
  pub row : ℕ
  pub within : row < rows_of_line p line
  pub shown : is_in_view (view_at p row width) s ≡ true
  pub alone : (k : ℕ) → is_in_view (view_at p k width) s ≡ true → k ≡ row

-- a number that ends in column 7, with its first seven digits
abbrev pub PaintsNumber : ℕ → ℕ → ℕ → BufferData → BufferData → Type 0
PaintsNumber n x y old new =
    let digits = min (length (decimal n)) 7 in
    PaintsText (x + (7 - digits)) y digits new_style (decimal n) old new

-- a number in so many columns, if they are some; 0 is none
abbrev pub PaintsNumberIf : ℕ → ℕ → ℕ → ℕ → BufferData → BufferData → Type 0
PaintsNumberIf zero n x y old new = new ≡ old
PaintsNumberIf (suc k) zero x y old new = new ≡ old
PaintsNumberIf (suc k) (suc n) x y old new = PaintsNumber (suc n) x y old new

-- the number of a line that is shown among all lines, from 0 on
abbrev pub line_number : Pager → ℕ → ℕ
line_number p k = if is_some p.whole then slice_index_or p.numbers k k else k

-- the number of a line from 1 on in its first row, and none in its other ones
abbrev pub number_at : Pager → Place → ℕ
number_at p q = if q.row == 0 then line_number p q.line + 1 else 0

-- the runs of a line by its number; a line without any is in no style
abbrev pub line_runs : List (List Run) → ℕ → List Run
line_runs styles k = slice_index_or styles k []

-- a row of the text: a row of a line, with the line's number in the first one; after the end of the text
-- a tilde
abbrev pub PaintsLineAt : Option (List ℕ) → Pager → Place → Rect → ℕ → BufferData → BufferData → Type 0
PaintsLineAt (Some line) p q r y =
    let beside = number_columns p r.width in
    InTurn (PaintsNumberIf beside (number_at p q) r.x y)
    (PaintsLine (r.x + beside) y (view_at p q.row (r.width - beside)) p.sought (line_runs p.styles (line_number p q.line)) line)
PaintsLineAt None p q r y = PaintsLine r.x y (view_from 0 r.width) (Plain []) [] (codes "~")

-- a row of the list of the keys
abbrev pub help_text : ℕ → List ℕ
help_text k = unwrap_or (slice_get (map (λ line. line.now) HELP) k) []

-- a place of the text in a row
abbrev pub PaintsTextRow : Pager → Place → Rect → ℕ → BufferData → BufferData → Type 0
PaintsTextRow p q r y = PaintsLineAt (slice_get p.document q.line) p q r y

-- row k of a page: a place of the text, or a row of the list of the keys
abbrev pub PaintsRowIn : Mode → Pager → Rect → ℕ → Place → BufferData → BufferData → Type 0
PaintsRowIn Helping p r k q = PaintsLine r.x (r.y + k) (view_from 0 r.width) (Plain []) [] (help_text k)
PaintsRowIn _ p r k q = PaintsTextRow p q r (r.y + k)

-- row k of a page shows the place that is so many rows after the first one
abbrev pub PaintsPageRow : Pager → Rect → ℕ → BufferData → BufferData → Type 0
PaintsPageRow p r k = PaintsRowIn p.mode p r k (places_after (breaking p) k (page_place p))

-- the first rows of a page
unfoldable pub PaintsPageRows : Pager → Rect → ℕ → BufferData → BufferData → Type 0
PaintsPageRows p r zero old new = new ≡ old
PaintsPageRows p r (suc k) old new = InTurn (PaintsPageRows p r k) (PaintsPageRow p r k) old new

-- ---- the status

-- the first and the last line that a page shows, from 1 on
abbrev pub first_shown : Pager → ℕ
first_shown p = min (p.top + 1) (length p.document)

abbrev pub last_shown : Pager → ℕ
last_shown p = min ((place_after (page_rows p - 1) p).line + 1) (length p.document)

-- how many of a hundred parts of the text end with the page
abbrev pub per_cent : Pager → ℕ
per_cent p = if length p.document == 0 then 100 else last_shown p * 100 / length p.document

-- whether some lines are hidden
abbrev pub filter_text : Pager → List ℕ
filter_text p = if is_some p.whole then codes " filtered" else []

-- how many lines are known, as `/100 23%`; or, while more may come, `/100+`
abbrev pub count_text : Pager → List ℕ
count_text p =
    codes "/" ++ decimal (length p.document)
    ++ (if p.has_more then codes "+" else codes " " ++ decimal (per_cent p) ++ codes "%")

-- the place, as ` 1-23/100 23%`, and ` filtered` where some lines are hidden
abbrev pub place_text : Pager → List ℕ
place_text p =
    codes " " ++ decimal (first_shown p) ++ codes "-" ++ decimal (last_shown p)
    ++ count_text p ++ filter_text p

-- how many bytes the first lines of a text take, with one for the end of each
unfoldable pub bytes_before : List (List ℕ) → ℕ → ℕ
bytes_before lines zero = 0
bytes_before lines (suc k) = bytes_before lines k + length (numbered_line lines k) + 1

abbrev pub byte_count : Pager → ℕ → ℕ
byte_count p k = min (bytes_before p.document k) (2 ^ 64 - 1)

-- the place, and how many bytes of the text end with the page, as ` 1-23/100 23% bytes 1024/4096`
abbrev pub details_text : Pager → List ℕ
details_text p =
    place_text p ++ codes " bytes " ++ decimal (byte_count p (last_shown p)) ++ codes "/"
    ++ decimal (byte_count p (length p.document))

-- the place while the text is followed, as ` 78-100/100 100% follows: any key ends that`
abbrev pub follow_text : Pager → List ℕ
follow_text p = place_text p ++ codes " follows: any key ends that"

-- the place while a command waits for lines, as ` 1-23/30+ waits: any key ends that`
abbrev pub wait_text : Pager → List ℕ
wait_text p = place_text p ++ codes " waits: any key ends that"

-- what the status tells while the text is read: what the text is called, and the place; or what isn't found,
-- or can't be sought
abbrev pub note_name : Note → Pager → List ℕ
note_name Missing p = codes "not found: "
note_name Refused p = codes "not a pattern: "
note_name _ p = p.name

abbrev pub note_text : Note → Pager → List ℕ
note_text Range p = place_text p
note_text Bytes p = details_text p
note_text Missing p = text_of_sought p.sought
note_text Refused p = field_text p.typed
note_text Waiting p = wait_text p

-- the two parts of a status: such a note; or what is typed of a search; or which key is awaited
abbrev pub first_part : Mode → Pager → List ℕ
first_part Reading p = note_name p.note p
first_part Asking p = if p.is_back then codes "?" else codes "/"
first_part Filtering p = codes "&"
first_part Marking p = codes "mark"
first_part Returning p = codes "go to mark"
first_part Turning p = codes ":"
first_part Helping p = codes "keys"
first_part Following p = p.name

abbrev pub second_part : Mode → Pager → List ℕ
second_part Reading p = note_text p.note p
second_part Asking p = field_text p.typed
second_part Filtering p = field_text p.typed
second_part Marking p = codes ": a letter"
second_part Returning p = codes ": a letter, or ' for where the last jump began"
second_part Turning p = codes " n for the next text, p for the one before, q for the end"
second_part Helping p = codes ": any key goes back"
second_part Following p = follow_text p

-- the status in a row, one part after the other
abbrev pub PaintsStatus : Pager → Rect → ℕ → BufferData → BufferData → Type 0
PaintsStatus p r y =
    let first = first_part p.mode p in
    let used = columns (text_pieces r.width reversed first) in
    InTurn (PaintsText r.x y r.width reversed first)
    (PaintsText (r.x + used) y (r.width - used) reversed (second_part p.mode p))

-- where the cursor stands while something is typed: in the last row, after the column of the first part and
-- after what is typed before it, if the row goes so far
abbrev pub typing_cursor : List ℕ → Rect → Option Position
typing_cursor before r =
    if nat_lt 0 r.height && nat_lt (text_columns before) (r.width - 1) then Some (record {
      x = min (r.x + (text_columns before + 1)) 65535;
      y = min (r.y + (r.height - 1)) 65535;
    })
    else None

abbrev pub mode_cursor : Mode → Pager → Rect → Option Position
mode_cursor Asking p r = typing_cursor p.typed.before r
mode_cursor Filtering p r = typing_cursor p.typed.before r
mode_cursor _ p r = None

-- the cursor of a page over an area, if it is shown
abbrev pub page_cursor : Pager → Rect → Option Position
page_cursor p r = mode_cursor p.mode p r

-- ---- the page

-- a page over a part of a buffer: its rows, and in the last row the status
abbrev pub PaintsPage : Pager → Rect → BufferData → BufferData → Type 0
PaintsPage p r = InTurn (PaintsPageRows p r (r.height - 1)) (PaintsStatus p r (r.y + (r.height - 1)))

-- a page over the part of an area that a buffer has; of a buffer of plain cells comes one that a screen can
-- show
pub record PaintsPager (p : Pager) (area : Rect) (old new : BufferData) : Type 0 where
  pub within : ChangesWithin area old new
  pub page : OnPart (PaintsPage p) area old new
  pub settled : EdgesFit old.area → IsPlainFrom 0 old → IsSettledBuffer new
