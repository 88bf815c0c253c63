-- Entries that are marked.
use Rattle.std.specs.Prelude.{◌==◌, ℕ, Bool, false, not, if◌then◌else◌, List, [], ◌∷◌, ◌++◌, length}
use Rattle.std.specs.Prelude.{filter, codes, Option, slice_get, string_bytes}
use Rattle.std.specs.{List.list_any, List.position_from, List.All, Option.option_map_or, Option.option_and_then, Str.bytes_eq}
use Rattle.files.specs.declared.list.Row.{Row}
use Rattle.files.specs.declared.list.Listing.{Listing as ListingData}
use Rattle.files.specs.declared.marks.Mark.{Mark}
use Rattle.files.specs.declared.browser.Browser.{Browser}
use Rattle.files.specs.Sorting.{HasName}

-- a mark has a name, and so has a row
abbrev pub is_mark_named : List ℕ → Mark → Bool
is_mark_named name mark = bytes_eq mark.name name

abbrev pub is_row_named : List ℕ → Row → Bool
is_row_named name row = bytes_eq (string_bytes row.name) name

-- a row is marked: a mark has its name
abbrev pub is_row_marked : Browser → Row → Bool
is_row_marked b row = list_any (is_mark_named (string_bytes row.name)) b.marks

abbrev pub is_selected_marked : Browser → Bool
is_selected_marked b = option_map_or (is_row_marked b) (slice_get b.list b.selected) false

-- the mark of a row
abbrev pub row_mark : Row → Mark
row_mark row = record { name = string_bytes row.name; is_leaf = row.is_leaf }

-- the marks but those with a name
abbrev pub marks_but : List ℕ → List Mark → List Mark
marks_but name marks = filter (λ mark. not (is_mark_named name mark)) marks

-- a mark more; or those with its name are dropped, if there are some
abbrev pub mark_turned : Mark → List Mark → List Mark
mark_turned mark marks =
    if list_any (is_mark_named mark.name) marks then marks_but mark.name marks else marks ++ mark ∷ []

-- the entry that is selected is marked, or no longer
abbrev pub marks_turned : Browser → List Mark
marks_turned b = option_map_or (λ row. mark_turned (row_mark row) b.marks) (slice_get b.list b.selected) b.marks

-- the marks that have a row in a list; none of them if the list is another folder's
abbrev pub has_row_named : List Row → Mark → Bool
has_row_named rows mark = list_any (is_row_named mark.name) rows

abbrev pub marks_left : ListingData → Browser → List Mark
marks_left l b = if bytes_eq l.folder b.folder then filter (has_row_named l.rows) b.marks else []

-- the place of the entry that was marked first
abbrev pub mark_place : List Row → Mark → Option ℕ
mark_place rows mark = position_from (is_row_named mark.name) 0 rows

abbrev pub first_mark_place : Browser → Option ℕ
first_mark_place b = option_and_then (mark_place b.list) (slice_get b.marks 0)

-- what stands before an entry if some are marked
abbrev pub mark_lead : Browser → Row → List ℕ
mark_lead b row = if length b.marks == 0 then [] else if is_row_marked b row then codes "* " else codes "  "

-- a mark is of an entry that is listed, and so are all marks
abbrev pub IsMarkListed : List Row → Mark → Type 0
IsMarkListed rows mark = (k : ℕ) × HasName mark.name (slice_get rows k)

abbrev pub AreMarksListed : Browser → Type 0
AreMarksListed b = All (IsMarkListed b.list) b.marks
