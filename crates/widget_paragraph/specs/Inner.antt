-- What is left of a line that is broken, of which as much is held as its next row needs, and of one that is
-- cut.
use Rattle.std.specs.Prelude.{◌≡◌, ℕ, ◌-◌, ◌<◌, ◌≤◌, ◌⊎◌, Bool, true, List, [], ◌++◌, length}
use Rattle.std.specs.Prelude.{filter, drop, ◌+◌}
use Rattle.ratatui_core.specs.Text.{GraphemeData, line_graphemes_left}
use Rattle.widget_paragraph.specs.declared.{ahead.Ahead.Ahead, cut.Cut.Cut, paragraph.Filling.Filling}
use Rattle.widget_paragraph.specs.Reflow.{columns_taken, fits_row, trimmed_start, after_columns}
use Rattle.widget_paragraph.specs.Reflow.{fitting_front}
use Rattle.ratatui_core.specs.{Layout.Rect, Style.Style}
use Rattle.ratatui_core.specs.Buffer.{BufferData}
use Rattle.widget_paragraph.specs.Paragraphs.{TextRow, PaintsRows, rows_shown}

-- how many columns stand after the blanks that are left out before a row
abbrev pub columns_ahead : Bool → List GraphemeData → ℕ
columns_ahead trim gs = columns_taken (drop (trimmed_start trim gs) gs)

-- the graphemes that are held for the rows to come, and those that are left of the line: of these the ones
-- that fit a row
abbrev pub held_of : Ahead → List GraphemeData
held_of a = drop a.passed a.held.items

abbrev pub left_of : Ahead → List GraphemeData
left_of a = held_of a ++ filter (fits_row a.width) (line_graphemes_left a.rest)

-- no more were passed than are held, and nothing is left of a line that was read
pub record IsAhead (a : Ahead) : Type 0 where
  pub within : a.passed ≤ length a.held.items
  pub read : a.is_read ≡ true → line_graphemes_left a.rest ≡ []

-- what is held decides where the next row ends, whatever comes after it: the row, and a grapheme after it
abbrev pub IsEnough : ℕ → Bool → List GraphemeData → Type 0
IsEnough width trim gs = width < columns_ahead trim gs

-- the next row is held, or all that is left
pub record HoldsNext (a : Ahead) : Type 0 where
  pub ahead : IsAhead a
  pub enough : IsEnough a.width a.trim (held_of a) ⊎ (line_graphemes_left a.rest ≡ [])

-- these graphemes are left of a line, for rows of the same width and kind
pub record HasLeft (gs : List GraphemeData) (old new : Ahead) : Type 0 where
  pub left : left_of new ≡ gs
  pub width : new.width ≡ old.width
  pub trim : new.trim ≡ old.trim

-- the graphemes of the row that are to come
abbrev pub left_of_cut : Cut → List GraphemeData
left_of_cut c = fitting_front (c.width - c.used)
    (after_columns c.offset (filter (fits_row c.width) (line_graphemes_left c.rest)))

-- no more columns were used than there are, and none before those that are left out
pub record IsCut (c : Cut) : Type 0 where
  pub within : c.used ≤ c.width
  pub start : 0 < c.offset → c.used ≡ 0

-- a grapheme in a style
abbrev pub grapheme_in : Style → List ℕ → GraphemeData
grapheme_in style symbol = record { symbol = symbol; style = style }

-- A call paints the next rows of an area that was filled so far, and it is filled so far then: whatever rows
-- come after these, to go on with those is to paint all.
abbrev pub PaintsOn : Rect → Filling → Filling → List TextRow → BufferData → BufferData → Type 0
PaintsOn r from to rows old now =
    (more : List TextRow) (new : BufferData)
    → PaintsRows r (r.y + to.row) (rows_shown (r.height - to.row) to.skip more) now new
    → PaintsRows r (r.y + from.row) (rows_shown (r.height - from.row) from.skip (rows ++ more)) old new
