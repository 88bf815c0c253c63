-- The place lies in the text, whatever comes.
use Rattle.std.proofs.Common.{◌≡◌, ℕ, ◌-◌, ◌==◌, ◌&&◌, ◌||◌, Bool, true, false, not, nat_lt, if◌then◌else◌, List, [], length}
use Rattle.std.proofs.Common.{Option, Some, None, is_some, refl, arith}
use Rattle.std.proofs.lemmas.Bool.Decides.{nat_tests}
use Rattle.text_field.specs.{Field.FieldData, Keys.edited}
use Rattle.ratatui_core.specs.Layout.{Size}
use Rattle.ratatui_events.specs.declared.event.Event.{Event}
use Rattle.ratatui_reads.specs.Reads.{size_in}
use Rattle.pager.specs.declared.pager.Pager.{Pager}
use Rattle.pager.specs.declared.pager.Mode.{Mode}
use Rattle.pager.specs.declared.pager.Mode.TheVariants.{Reading, Asking, Filtering, Marking, Returning, Turning, Helping, Following}
use Rattle.pager.specs.declared.answer.Answer.{Answer}
use Rattle.pager.specs.declared.answer.Answer.TheVariants.{Change, Search, Cancel, Ignore}
use Rattle.pager.specs.declared.command.Command.{Command}
use Rattle.pager.specs.declared.command.Command.TheVariants.{Nothing, Digit, Down, Up, PageDown, PageUp, HalfDown, HalfUp}
use Rattle.pager.specs.declared.command.Command.TheVariants.{WheelDown, WheelUp}
use Rattle.pager.specs.declared.command.Command.TheVariants.{ToStart, ToEnd, ToLeft, ToRight, Ask, Next, Previous, Numbers, Wrap}
use Rattle.pager.specs.declared.command.Command.TheVariants.{Help, Quit, ToPart, Details, Mark, ToMark, Turn, Filter, Follow}
use Rattle.std.specs.Prelude.{replicate}
use Rattle.pager.specs.declared.sought.Sought.{Sought}
use Rattle.pager.specs.Search.{next_match, last_match, matching, picked}
use Rattle.text_places.specs.declared.place.Place.{Place}
use Rattle.text_places.specs.Places.{text_place, is_before}
use Rattle.pager.specs.Places.{IsInText, last_page, at_place}
use Rattle.pager.specs.Moves.{started, found_at, before_found, after_found, sought_on, after_move}
use Rattle.pager.specs.Moves.{obeyed, next_sought, answered, acted, updated_by, updated, with_mark, letter_marked, marked_line, gone_back}
use Rattle.pager.specs.Moves.{first_match, sought_first, all_lines, relined, with_lines, taken_by, has_text, turned_to, has_typed, gives_up}
use Rattle.pager.specs.Keys.{event_command, event_answer, event_mark, event_ending, is_press}
use Rattle.pager.specs.declared.pager.Ending.{Ending}

-- of two places at most one stands before the other one
both : (a b c d : ℕ) → (nat_lt a c || ((a == c) && nat_lt b d)) ≡ true → (nat_lt c a || ((c == a) && nat_lt d b)) ≡ false
both a b c d is = grind (arith, nat_tests)

alone : (a b : ℕ) → (nat_lt a a || ((a == a) && nat_lt b b)) ≡ false
alone a b = grind (arith, nat_tests)

earlier-in : (b : Bool) (q l : Place) → is_before q l ≡ b → is_before l (if b then q else l) ≡ false
earlier-in true q l is = both q.line q.row l.line l.row is
earlier-in false q l is = alone l.line l.row

placed-in : (q : Place) (p : Pager) → IsInText (at_place q p)
placed-in q p = earlier-in (is_before q (last_page p)) q (last_page p) refl

none-before : (a b : ℕ) → (nat_lt a 0 || ((a == 0) && nat_lt b 0)) ≡ false
none-before a b = grind (arith, nat_tests)

pub first : (lines : List (List ℕ)) (name text : List ℕ) (size : Size) → IsInText (started lines name text size)
first lines name text size = let l = last_page (started lines name text size) in none-before l.line l.row

found-in : (found : Option ℕ) (p : Pager) → IsInText p → IsInText (found_at found p)
found-in (Some k) p is = placed-in (text_place k 0) (with_mark 0 p)
found-in None p is = is

sought_on-in : (is_back : Bool) (p : Pager) → IsInText p → IsInText (sought_on is_back p)
sought_on-in true p is = found-in (last_match p.sought p.document (before_found p.found p.top)) p is
sought_on-in false p is = found-in (next_match p.sought p.document (after_found p.found p.top)) p is

follow-in : (b : Bool) (p : Pager) → IsInText p → IsInText (if b then p else record (with_mark 0 p) { mode = Following })
follow-in true p is = is
follow-in false p is = is

moved-in : (command : Command) (p : Pager) → IsInText p → IsInText (after_move command p)
moved-in Down p is = placed-in _ p
moved-in Up p is = placed-in _ p
moved-in PageDown p is = placed-in _ p
moved-in PageUp p is = placed-in _ p
moved-in HalfDown p is = placed-in _ p
moved-in HalfUp p is = placed-in _ p
moved-in WheelDown p is = placed-in _ p
moved-in WheelUp p is = placed-in _ p
moved-in ToStart p is = placed-in _ (with_mark 0 p)
moved-in ToEnd p is = placed-in _ (with_mark 0 p)
moved-in ToPart p is = placed-in _ (with_mark 0 p)
moved-in ToLeft p is = is
moved-in ToRight p is = is
moved-in Numbers p is = placed-in (text_place p.top 0) (record p { has_numbers = not p.has_numbers })
moved-in Wrap p is = placed-in (text_place p.top 0) (record p { wraps = not p.wraps; left = 0 })
moved-in Help p is = is
moved-in Quit p is = is
moved-in Follow p is = follow-in (is_some p.whole) p is
moved-in (Digit d) p is = is
moved-in (Ask is_back) p is = is
moved-in Next p is = is
moved-in Previous p is = is
moved-in Details p is = is
moved-in Mark p is = is
moved-in Filter p is = is
moved-in ToMark p is = is
moved-in Turn p is = is
moved-in Nothing p is = is

obeyed-in : (command : Command) (p : Pager) → IsInText p → IsInText (obeyed command p)
obeyed-in (Digit d) p is = is
obeyed-in (Ask is_back) p is = is
obeyed-in Next p is = sought_on-in p.is_back p is
obeyed-in Previous p is = sought_on-in (not p.is_back) p is
obeyed-in Nothing p is = is
obeyed-in Down p is = moved-in Down p is
obeyed-in Up p is = moved-in Up p is
obeyed-in PageDown p is = moved-in PageDown p is
obeyed-in PageUp p is = moved-in PageUp p is
obeyed-in HalfDown p is = moved-in HalfDown p is
obeyed-in HalfUp p is = moved-in HalfUp p is
obeyed-in WheelDown p is = moved-in WheelDown p is
obeyed-in WheelUp p is = moved-in WheelUp p is
obeyed-in ToStart p is = moved-in ToStart p is
obeyed-in ToEnd p is = moved-in ToEnd p is
obeyed-in ToPart p is = moved-in ToPart p is
obeyed-in ToLeft p is = is
obeyed-in ToRight p is = is
obeyed-in Numbers p is = moved-in Numbers p is
obeyed-in Wrap p is = moved-in Wrap p is
obeyed-in Help p is = is
obeyed-in Quit p is = is
obeyed-in Follow p is = moved-in Follow p is
obeyed-in Details p is = is
obeyed-in Mark p is = is
obeyed-in Filter p is = is
obeyed-in ToMark p is = is
obeyed-in Turn p is = is

sought_first-in : (p : Pager) → IsInText p → IsInText (sought_first p)
sought_first-in p is = found-in (first_match p.sought p) p is

edited-if : (b : Bool) (typed : FieldData) (p : Pager) → IsInText p
    → IsInText (if b then record p { mode = Reading } else record p { typed = typed })
edited-if true typed p is = is
edited-if false typed p is = is

-- other lines, before the page of the first one is shown
abbrev fresh : Option (List (List ℕ)) → List ℕ → List (List ℕ) → Pager → Pager
fresh whole numbers lines p = record p {
  document = lines;
  whole = whole;
  numbers = numbers;
  left = 0;
  found = None;
  marks = replicate 53 None;
}

filtered-if : (b : Bool) (numbers : List ℕ) (p : Pager) → IsInText p
    → IsInText (if b then with_lines numbers p else relined None [] (all_lines p) p)
filtered-if true numbers p is =
    placed-in (text_place 0 0) (fresh (Some (all_lines p)) numbers (picked (all_lines p) numbers) p)
filtered-if false numbers p is = placed-in (text_place 0 0) (fresh None [] (all_lines p) p)

taken-in : (mode : Mode) (sought : Option Sought) (p : Pager) → IsInText p → IsInText (taken_by mode sought p)
taken-in mode None p is = is
taken-in Filtering (Some s) p is = filtered-if (has_typed p) (matching s (all_lines p) (length (all_lines p))) p is
taken-in Reading (Some s) p is = sought_first-in (record p { sought = s }) is
taken-in Asking (Some s) p is = sought_first-in (record p { sought = s }) is
taken-in Marking (Some s) p is = sought_first-in (record p { sought = s }) is
taken-in Returning (Some s) p is = sought_first-in (record p { sought = s }) is
taken-in Turning (Some s) p is = sought_first-in (record p { sought = s }) is
taken-in Helping (Some s) p is = sought_first-in (record p { sought = s }) is
taken-in Following (Some s) p is = sought_first-in (record p { sought = s }) is

answered-in : (answer : Answer) (p : Pager) → IsInText p → IsInText (answered answer p)
answered-in (Change edit) p is = edited-if (gives_up edit p) (edited edit p.typed) p is
answered-in Search p is = taken-in p.mode (next_sought p) p is
answered-in Cancel p is = is
answered-in Ignore p is = is

marked-in : (mark : Option ℕ) (p : Pager) → IsInText p → IsInText (letter_marked mark p)
marked-in (Some mark) p is = is
marked-in None p is = is

returned-in : (line : Option ℕ) (p : Pager) → IsInText p → IsInText (gone_back line p)
returned-in (Some line) p is = placed-in (text_place line 0) (with_mark 0 p)
returned-in None p is = is

marked-if : (b : Bool) (mark : Option ℕ) (p : Pager) → IsInText p → IsInText (if b then letter_marked mark p else p)
marked-if true mark p is = marked-in mark p is
marked-if false mark p is = is

returned-if : (b : Bool) (line : Option ℕ) (p : Pager) → IsInText p → IsInText (if b then gone_back line p else p)
returned-if true line p is = returned-in line p is
returned-if false line p is = is

turned_to-if : (b : Bool) (e : Option Ending) (p : Pager) → IsInText p → IsInText (if b then turned_to e p else p)
turned_to-if true None p is = is
turned_to-if true (Some e) p is = by (has_text e p)
  where
    by : (b : Bool)
        → IsInText (if b then record p { mode = Reading; is_over = true; ending = e } else record p { mode = Reading })
    by true = is
    by false = is
turned_to-if false e p is = is

helped-if : (b : Bool) (p : Pager) → IsInText p → IsInText (if b then record p { mode = Reading } else p)
helped-if true p is = is
helped-if false p is = is

acted-in : (mode : Mode) (event : Event) (p : Pager) → IsInText p → IsInText (acted mode event p)
acted-in Reading event p is = obeyed-in (event_command event) p is
acted-in Asking event p is = answered-in (event_answer event) p is
acted-in Filtering event p is = answered-in (event_answer event) p is
acted-in Marking event p is = marked-if (is_press event) (event_mark event) p is
acted-in Returning event p is = returned-if (is_press event) (marked_line (event_mark event) p) p is
acted-in Turning event p is = turned_to-if (is_press event) (event_ending event) p is
acted-in Helping event p is = helped-if (is_press event) p is
acted-in Following event p is = helped-if (is_press event) p is

by-size : (size : Option (ℕ × ℕ)) (event : Event) (p : Pager) → IsInText p → IsInText (updated_by size event p)
by-size (Some size) event p is = placed-in (text_place p.top 0) (record p { columns = size.0; rows = size.1 })
by-size None event p is = acted-in p.mode event p is

pub next : (p : Pager) (event : Event) → IsInText p → IsInText (updated p event)
next p event is = by-size (size_in event) event p is
