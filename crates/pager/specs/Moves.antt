-- What each event makes of a pager: its place, its search, and what it shows.
use Rattle.std.specs.Prelude.{ℕ, Bool, true, false, not, ◌+◌, ◌-◌, ◌*◌, ◌/◌, ◌==◌, nat_lt, min, max}
use Rattle.std.specs.Prelude.{if◌then◌else◌, List, [], length, Option, Some, None, ◌^◌, replicate}
use Rattle.std.specs.Prelude.{slice_get, slice_set, unwrap_or, is_some}
use Rattle.ratatui_core.specs.Layout.{Size}
use Rattle.ratatui_events.specs.declared.event.Event.{Event}
use Rattle.ratatui_reads.specs.Reads.{size_in}
use Rattle.text_field.specs.{Field.FieldData, Field.field_text, Field.new_field, Keys.edited}
use Rattle.text_field.specs.declared.keys.Edit.{Edit}
use Rattle.text_field.specs.declared.keys.Edit.TheVariants.{DeleteLeft}
use Rattle.pager.specs.declared.pager.Pager.{Pager}
use Rattle.pager.specs.declared.pager.Mode.{Mode}
use Rattle.pager.specs.declared.pager.Mode.TheVariants.{Reading, Asking, Filtering, Marking, Returning, Turning, Helping, Following}
use Rattle.pager.specs.declared.pager.Note.TheVariants.{Range, Bytes, Missing, Refused}
use Rattle.pager.specs.declared.pager.Ending.{Ending}
use Rattle.pager.specs.declared.pager.Ending.TheVariants as ending
use Rattle.pager.specs.declared.answer.Answer.{Answer}
use Rattle.pager.specs.declared.answer.Answer.TheVariants.{Change, Search, Cancel, Ignore}
use Rattle.pager.specs.declared.command.Command.{Command}
use Rattle.pager.specs.declared.command.Command.TheVariants.{Digit, Down, Up, PageDown, PageUp}
use Rattle.pager.specs.declared.command.Command.TheVariants.{HalfDown, HalfUp, WheelDown, WheelUp}
use Rattle.pager.specs.declared.command.Command.TheVariants.{ToStart, ToEnd, ToLeft, ToRight, Ask, Next}
use Rattle.pager.specs.declared.command.Command.TheVariants.{Previous, Numbers, Wrap, Help, Quit, ToPart}
use Rattle.pager.specs.declared.command.Command.TheVariants.{Details, Mark, ToMark, Turn, Filter, Follow}
use Rattle.pager.specs.Keys.{event_command, event_answer, event_mark, event_ending, is_press}
use Rattle.pager.specs.declared.sought.Sought.{Sought}
use Rattle.pager.specs.declared.sought.Sought.TheVariants.{Plain}
use Rattle.pager.specs.Search.{sought_by, next_match, last_match, matching, picked}
use Rattle.text_places.specs.Places.{text_place}
use Rattle.pager.specs.Places.{page_rows, at_place, place_after, place_before}

-- a line in which nothing is typed, of at most 80 characters
abbrev pub empty_line : FieldData
empty_line = record new_field { limit = Some 80 }

-- at the first line; a text is sought as it stands
abbrev pub started : List (List ℕ) → List ℕ → List ℕ → Size → Pager
started lines name text size = record {
  document = lines;
  has_more = false;
  styles = [];
  whole = None;
  numbers = [];
  name = name;
  columns = size.width;
  rows = size.height;
  top = 0;
  row = 0;
  left = 0;
  wraps = false;
  number = 0;
  has_numbers = false;
  mode = Reading;
  is_back = false;
  typed = empty_line;
  sought = Plain text;
  found = None;
  marks = replicate 53 None;
  note = Range;
  has_previous = false;
  has_next = false;
  is_over = false;
  ending = ending.Quit;
}

abbrev pub half_page : Pager → ℕ
half_page p = max (page_rows p / 2) 1

-- the page that begins at a line, or the last one
abbrev pub at_line : ℕ → Pager → Pager
at_line n p = at_place (text_place n 0) p

-- the line at which the page begins is kept as a mark
abbrev pub with_mark : ℕ → Pager → Pager
with_mark mark p = record p { marks = slice_set p.marks mark (Some p.top) }

-- at a line far away, and the apostrophe marks where that jump began
abbrev pub jumped_to : ℕ → Pager → Pager
jumped_to n p = at_line n (with_mark 0 p)

-- the line before which a number of hundredths of the text lies
abbrev pub part_line : ℕ → Pager → ℕ
part_line per_cent p = length p.document * min per_cent 100 / 100

-- the number that was typed, or else another one
abbrev pub or_number : ℕ → Pager → ℕ
or_number other p = if p.number == 0 then other else p.number

-- so many rows further, and back
abbrev pub further : ℕ → Pager → Pager
further n p = at_place (place_after (or_number n p) p) p

abbrev pub back : ℕ → Pager → Pager
back n p = at_place (place_before (or_number n p) p) p

-- half of the columns
abbrev pub half_width : Pager → ℕ
half_width p = max (p.columns / 2) 1

-- the text is followed, unless lines of it are hidden; the apostrophe marks where that began
abbrev pub follow_begun : Pager → Pager
follow_begun p = if is_some p.whole then p else record (with_mark 0 p) { mode = Following }

-- what a command makes of the place, and of what is shown of each line
abbrev pub after_move : Command → Pager → Pager
after_move Down p = further 1 p
after_move Up p = back 1 p
after_move PageDown p = further (page_rows p) p
after_move PageUp p = back (page_rows p) p
after_move HalfDown p = further (half_page p) p
after_move HalfUp p = back (half_page p) p
after_move WheelDown p = further 3 p
after_move WheelUp p = back 3 p
after_move ToStart p = jumped_to (or_number 1 p - 1) p
after_move ToEnd p = jumped_to (or_number (length p.document) p - 1) p
after_move ToPart p = jumped_to (part_line p.number p) p
after_move ToLeft p = record p { left = p.left - or_number (half_width p) p }
after_move ToRight p = record p { left = min (p.left + or_number (half_width p) p) (2 ^ 32 - 1) }
after_move Numbers p = at_line p.top (record p { has_numbers = not p.has_numbers })
after_move Wrap p = at_line p.top (record p { wraps = not p.wraps; left = 0 })
after_move Help p = record p { mode = Helping }
after_move Quit p = record p { is_over = true }
after_move Follow p = follow_begun p
after_move _ p = p

-- a digit more of a number, which stays at the greatest one
abbrev pub typed_digit : ℕ → Pager → Pager
typed_digit d p = record p { number = min (p.number * 10 + d) 9999999 }

-- at a line that was found; or none was
abbrev pub found_at : Option ℕ → Pager → Pager
found_at (Some k) p = record (jumped_to k p) { found = Some k; note = Range }
found_at None p = record p { note = Missing }

-- a search goes on from the line that was found last, or else from the first one of the page
abbrev pub after_found : Option ℕ → ℕ → ℕ
after_found (Some k) top = k + 1
after_found None top = top + 1

abbrev pub before_found : Option ℕ → ℕ → ℕ
before_found (Some k) top = k
before_found None top = top

abbrev pub sought_on : Bool → Pager → Pager
sought_on is_back p =
    if is_back then found_at (last_match p.sought p.document (before_found p.found p.top)) p
    else found_at (next_match p.sought p.document (after_found p.found p.top)) p

-- a search is typed
abbrev pub asked : Bool → Pager → Pager
asked is_back p = record p { mode = Asking; is_back = is_back; typed = empty_line }

-- a filter is typed
abbrev pub filter_asked : Pager → Pager
filter_asked p = record p { mode = Filtering; typed = empty_line }

-- what a command makes of a pager: each but a digit takes the number, and each move ends a search
abbrev pub obeyed : Command → Pager → Pager
obeyed (Digit d) p = typed_digit d p
obeyed (Ask is_back) p = record (asked is_back p) { number = 0; note = Range }
obeyed Next p = record (sought_on p.is_back p) { number = 0 }
obeyed Previous p = record (sought_on (not p.is_back) p) { number = 0 }
obeyed Filter p = record (filter_asked p) { number = 0; note = Range }
obeyed Details p = record p { number = 0; note = Bytes }
obeyed Mark p = record p { number = 0; note = Range; mode = Marking }
obeyed ToMark p = record p { number = 0; note = Range; mode = Returning }
obeyed Turn p = record p { number = 0; note = Range; mode = Turning }
obeyed command p = record (after_move command p) { number = 0; found = None; note = Range }

-- whether something is typed
abbrev pub has_typed : Pager → Bool
has_typed p = nat_lt 0 (length (field_text p.typed))

-- an edit that deletes to the left where nothing is typed gives the search up
abbrev pub gives_up : Edit → Pager → Bool
gives_up (DeleteLeft reach) p = not (has_typed p)
gives_up _ p = false

-- what is typed is edited
abbrev pub with_edit : Edit → Pager → Pager
with_edit edit p =
    if gives_up edit p then record p { mode = Reading } else record p { typed = edited edit p.typed }

-- what is sought next: what was typed, if that is a text that can be sought, or, if that is nothing, what was
-- sought last
abbrev pub next_sought : Pager → Option Sought
next_sought p = if has_typed p then sought_by (field_text p.typed) else Some p.sought

-- the first line from that of the page on that has this, or the last one before it
abbrev pub first_match : Sought → Pager → Option ℕ
first_match sought p =
    if p.is_back then last_match sought p.document p.top else next_match sought p.document p.top

-- a search begins there
abbrev pub sought_first : Pager → Pager
sought_first p = found_at (first_match p.sought p) p

-- all lines, also while some of them are hidden
abbrev pub all_lines : Pager → List (List ℕ)
all_lines p = unwrap_or p.whole p.document

-- these lines, from the first one on, without marks
abbrev pub relined : Option (List (List ℕ)) → List ℕ → List (List ℕ) → Pager → Pager
relined whole numbers lines p = at_line 0 (record p {
  document = lines;
  whole = whole;
  numbers = numbers;
  left = 0;
  found = None;
  marks = replicate 53 None;
})

-- only the lines of these numbers
abbrev pub with_lines : List ℕ → Pager → Pager
with_lines numbers p = relined (Some (all_lines p)) numbers (picked (all_lines p) numbers) p

-- only the lines that have what was typed; all of them if that is nothing
abbrev pub filtered : Sought → Pager → Pager
filtered sought p =
    if has_typed p then with_lines (matching sought (all_lines p) (length (all_lines p))) p
    else relined None [] (all_lines p) p

-- what was typed is taken: for a filter, or for a search; a text that can't be sought moves nothing
abbrev pub taken_by : Mode → Option Sought → Pager → Pager
taken_by mode None p = record p { note = Refused }
taken_by Filtering (Some sought) p = filtered sought p
taken_by _ (Some sought) p = sought_first (record p { sought = sought })

abbrev pub taken_in : Mode → Pager → Pager
taken_in mode p = taken_by mode (next_sought p) p

-- what an answer makes of a pager of which a search or a filter is asked
abbrev pub answered : Answer → Pager → Pager
answered (Change edit) p = with_edit edit p
answered Search p = record (taken_in p.mode p) { mode = Reading }
answered Cancel p = record p { mode = Reading }
answered Ignore p = p

-- the page's first line has a mark from now on
abbrev pub letter_marked : Option ℕ → Pager → Pager
letter_marked (Some mark) p = record (with_mark mark p) { mode = Reading }
letter_marked None p = record p { mode = Reading }

-- the line that a mark keeps
abbrev pub marked_line : Option ℕ → Pager → Option ℕ
marked_line (Some mark) p = unwrap_or (slice_get p.marks mark) None
marked_line None p = None

-- at a line that was marked, if one was
abbrev pub gone_back : Option ℕ → Pager → Pager
gone_back (Some line) p = record (jumped_to line p) { found = None; mode = Reading }
gone_back None p = record p { mode = Reading }

-- whether there is the text that an ending turns to
abbrev pub has_text : Ending → Pager → Bool
has_text ending.Quit p = true
has_text ending.Next p = p.has_next
has_text ending.Previous p = p.has_previous

-- the reader is done, and another text is to be shown, if there is one
abbrev pub turned_to : Option Ending → Pager → Pager
turned_to (Some e) p =
    if has_text e p then record p { mode = Reading; is_over = true; ending = e }
    else record p { mode = Reading }
turned_to None p = record p { mode = Reading }

-- on a terminal of another size
abbrev pub at_size : ℕ × ℕ → Pager → Pager
at_size size p = at_line p.top (record p { columns = size.0; rows = size.1 })

-- what an event makes of a pager that tells no size
abbrev pub acted : Mode → Event → Pager → Pager
acted Reading event p = obeyed (event_command event) p
acted Asking event p = answered (event_answer event) p
acted Filtering event p = answered (event_answer event) p
acted Marking event p = if is_press event then letter_marked (event_mark event) p else p
acted Returning event p = if is_press event then gone_back (marked_line (event_mark event) p) p else p
acted Turning event p = if is_press event then turned_to (event_ending event) p else p
acted Helping event p = if is_press event then record p { mode = Reading } else p
acted Following event p = if is_press event then record p { mode = Reading } else p

abbrev pub updated_by : Option (ℕ × ℕ) → Event → Pager → Pager
updated_by (Some size) event p = at_size size p
updated_by None event p = acted p.mode event p

-- what an event makes of a pager
abbrev pub updated : Pager → Event → Pager
updated p event = updated_by (size_in event) event p
