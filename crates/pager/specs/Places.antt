-- Places in a text: a line, and a row of it if lines are broken.
use Rattle.std.specs.Prelude.{◌≡◌, ℕ, false, ◌+◌, ◌-◌, ◌/◌, ◌&&◌}
use Rattle.std.specs.Prelude.{nat_lt, min, max, if◌then◌else◌, List, [], ◌∷◌, length, ◌^◌}
use Rattle.text_places.specs.declared.place.Place.{Place}
use Rattle.text_places.specs.Places.{text_place, places_after, places_before, is_before, earlier_place}
use Rattle.pager.specs.declared.sought.Sought.TheVariants.{Plain}
use Rattle.pager.specs.declared.pager.Pager.{Pager}
use Rattle.pager.specs.Search.{numbered_line}
use Rattle.pager.specs.Symbols.{LineSymbol, line_symbols}

-- the place at which the page begins
abbrev pub page_place : Pager → Place
page_place p = text_place p.top p.row

-- how many columns the numbers of lines take: none where there is no room for more
abbrev pub number_columns : Pager → ℕ → ℕ
number_columns p width = if p.has_numbers && nat_lt 8 width then 8 else 0

-- how many columns a row has for its line: all but those of the numbers
abbrev pub columns_for_line : Pager → ℕ
columns_for_line p = p.columns - number_columns p p.columns

-- how many columns of a line begin in a row, if lines are broken: all but the last one, in which a wide
-- symbol may end
abbrev pub stride : Pager → ℕ
stride p = max (columns_for_line p - 1) 1

-- the column in which the last symbol begins
abbrev pub last_start : ℕ → List LineSymbol → ℕ
last_start column [] = column
last_start column (s ∷ ss) = last_start s.column ss

-- how many rows a line takes
abbrev pub rows_of_line : Pager → List ℕ → ℕ
rows_of_line p line = if p.wraps then min (last_start 0 (line_symbols (Plain []) [] line)) (2 ^ 32 - 1) / stride p + 1 else 1

-- the same of each line of the text, by its number
abbrev pub breaking : Pager → ℕ → ℕ
breaking p line = rows_of_line p (numbered_line p.document line)

-- how many rows of text a page has: all but the last row, and at least one
abbrev pub page_rows : Pager → ℕ
page_rows p = max (p.rows - 1) 1

-- the place at which the last page begins: that page ends with the last row of the text
abbrev pub last_page : Pager → Place
last_page p =
    if p.wraps then places_before (breaking p) (page_rows p) (text_place (length p.document) 0)
    else text_place (length p.document - page_rows p) 0

-- the page that begins at a place, or the last one
abbrev pub at_place : Place → Pager → Pager
at_place q p = let r = earlier_place q (last_page p) in record p { top = r.line; row = r.row }

-- the places so many rows further, and back
abbrev pub place_after : ℕ → Pager → Place
place_after n p = if p.wraps then places_after (breaking p) n (page_place p) else text_place (p.top + n) 0

abbrev pub place_before : ℕ → Pager → Place
place_before n p = if p.wraps then places_before (breaking p) n (page_place p) else text_place (p.top - n) 0

-- the place lies in the text: no page begins after the last one
abbrev pub IsInText : Pager → Type 0
IsInText p = is_before (last_page p) (page_place p) ≡ false
