-- What an event needs is enough: lines that come later change nothing of what it does.
use Rattle.std.proofs.Common.{◌≡◌, ℕ, zero, suc, ◌+◌, ◌-◌, ◌*◌, ◌<◌, ◌≤◌, ◌==◌, ◌||◌, ◌&&◌, Bool, true, false, not, nat_lt, max}
use Rattle.std.proofs.Common.{if◌then◌else◌, List, [], ◌∷◌, ◌++◌, length, drop, Option, Some, None, refl, ap, sym, ◌∙◌, arith, length-append, is_some, rules, subst}
use Rattle.std.proofs.lemmas.Bool.Decides.{nat_tests}
use Rattle.std.proofs.lemmas.List.{get_or_append_left}
use Rattle.std.specs.List.{position_from}
use Rattle.text_field.specs.{Field.FieldData, Field.field_text, Keys.edited}
use Rattle.text_field.specs.declared.keys.Edit.{Edit}
use Rattle.text_field.specs.declared.keys.Edit.TheVariants as edit
use Rattle.ratatui_events.specs.declared.event.Event.{Event}
use Rattle.ratatui_reads.specs.Reads.{size_in}
use Rattle.pager.specs.declared.pager.Pager.{Pager}
use Rattle.pager.specs.declared.pager.Mode.{Mode}
use Rattle.pager.specs.declared.pager.Mode.TheVariants.{Reading, Asking, Filtering, Marking, Returning, Turning, Helping, Following}
use Rattle.pager.specs.declared.pager.Note.TheVariants.{Range}
use Rattle.pager.specs.declared.answer.Answer.{Answer}
use Rattle.pager.specs.declared.answer.Answer.TheVariants.{Change, Search, Cancel, Ignore}
use Rattle.pager.specs.declared.command.Command.{Command}
use Rattle.pager.specs.declared.command.Command.TheVariants.{Nothing, Digit, Down, Up, PageDown, PageUp, HalfDown, HalfUp}
use Rattle.pager.specs.declared.command.Command.TheVariants.{WheelDown, WheelUp}
use Rattle.pager.specs.declared.command.Command.TheVariants.{ToStart, ToEnd, ToLeft, ToRight, Ask, Next, Previous, Numbers, Wrap}
use Rattle.pager.specs.declared.command.Command.TheVariants.{Help, Quit, ToPart, Details, Mark, ToMark, Turn, Filter, Follow}
use Rattle.pager.specs.declared.pager.Ending.{Ending}
use Rattle.pager.specs.declared.pager.Ending.TheVariants as ending
use Rattle.text_places.specs.declared.place.Place.{Place}
use Rattle.pager.specs.declared.styles.Run.{Run}
use Rattle.pager.specs.declared.sought.Sought.{Sought}
use Rattle.pager.specs.Search.{has_match, numbered_line, next_match, last_match}
use Rattle.text_places.proofs.LineLemmas.{after-line, before-line, before-low, after-same, before-same}
use Rattle.text_places.specs.Places.{text_place, next_place, previous_place, places_after, places_before, is_before, earlier_place}
use Rattle.pager.specs.Places.{breaking, page_place, page_rows, rows_of_line}
use Rattle.pager.specs.Places.{last_page, at_place, place_after, place_before}
use Rattle.pager.specs.Moves.{half_page, at_line, with_mark, jumped_to, or_number, further, back, after_move, found_at}
use Rattle.pager.specs.Moves.{after_found, before_found, sought_on, obeyed, has_typed, gives_up}
use Rattle.pager.specs.Moves.{with_edit, next_sought, sought_first, taken_by, taken_in, answered, letter_marked, marked_line, gone_back}
use Rattle.pager.specs.Moves.{has_text, turned_to, at_size, acted, updated_by, updated}
use Rattle.pager.specs.Keys.{event_command, event_answer, event_mark, event_ending, is_press}
use Rattle.pager.specs.Growing.{every_line, lines_through, page_needs, further_needs, match_needs, search_needs, next_needs}
use Rattle.pager.specs.Growing.{command_needs, typed_needs, answer_needs, mark_needs, mode_needs, size_needs, event_needs, with_more}

-- ---- lines

numbered-more : (xs ys : List (List ℕ)) (k : ℕ) → k < length xs → numbered_line (xs ++ ys) k ≡ numbered_line xs k
numbered-more xs ys k lt = get_or_append_left xs ys [] k lt

true-false : true ≡ false → ⊥
true-false e = search rules

none-some : {A : Type 0} (m : ℕ) → None ≡ Some m → A
none-some m is = absurd (true-false (ap (λ (o : Option ℕ). is_some o) (sym is)))

first-more : (t : List ℕ → Bool) (i : ℕ) (xs ys : List (List ℕ)) (m : ℕ) → position_from t i xs ≡ Some m
    → position_from t i (xs ++ ys) ≡ Some m
first-more t i [] ys m is = none-some m is
first-more t i (x ∷ xs) ys m is = by (t x) (λ e. first-more t (i + 1) xs ys m e) is
  where
    by : (b : Bool)
        → (position_from t (i + 1) xs ≡ Some m → position_from t (i + 1) (xs ++ ys) ≡ Some m)
        → (if b then Some i else position_from t (i + 1) xs) ≡ Some m
        → (if b then Some i else position_from t (i + 1) (xs ++ ys)) ≡ Some m
    by true rest e = e
    by false rest e = rest e

from-more : (t : List ℕ → Bool) (n i : ℕ) (xs ys : List (List ℕ)) (m : ℕ) → position_from t i (drop n xs) ≡ Some m
    → position_from t i (drop n (xs ++ ys)) ≡ Some m
from-more t zero i xs ys m is = first-more t i xs ys m is
from-more t (suc n) i [] ys m is = none-some m is
from-more t (suc n) i (x ∷ xs) ys m is = from-more t n i xs ys m is

last-more : (sought : Sought) (xs ys : List (List ℕ)) (k : ℕ) → k ≤ length xs
    → last_match sought (xs ++ ys) k ≡ last_match sought xs k
unfolding last_match
last-more sought xs ys zero le = refl
last-more sought xs ys (suc k) le =
    ap (λ l. if has_match sought l then Some k else last_match sought (xs ++ ys) k)
    (numbered-more xs ys k (omega (arith, le)))
    ∙ ap (λ o. if has_match sought (numbered_line xs k) then Some k else o)
    (last-more sought xs ys k (omega (arith, le)))

-- ---- places

-- a line takes as many rows if more lines come after it
breaking-more : (more : List (List ℕ)) (styles : List (List Run)) (has_more : Bool) (p : Pager) (line : ℕ)
    → line < length p.document → breaking (with_more more styles has_more p) line ≡ breaking p line
breaking-more more styles has_more p line lt = ap (rows_of_line p) (numbered-more p.document more line lt)

earlier-line : (q l : Place) → q.line < l.line → is_before q l ≡ true
earlier-line q l lt = grind (arith, nat_tests, lt)

-- the last page begins no more than a page before the end
last-far : (p : Pager) → length p.document ≤ (last_page p).line + page_rows p
last-far p = by p.wraps
  where
    by : (b : Bool) → length p.document
        ≤ (if b then places_before (breaking p) (page_rows p) (text_place (length p.document) 0)
        else text_place (length p.document - page_rows p) 0).line + page_rows p
    by true = before-low (breaking p) (page_rows p) (text_place (length p.document) 0)
    by false = omega arith

-- a page that ends before the last line is the one that was asked for
placed : (q : Place) (p : Pager) → lines_through q.line p ≤ length p.document
    → at_place q p ≡ record p { top = q.line; row = q.row }
placed q p le =
    let far = last-far p in
    let before = earlier-line q (last_page p) (omega (arith, le, far)) in
    ap (λ b. let r = if b then q else last_page p in record p { top = r.line; row = r.row }) before

-- ---- pagers

module _ (more : List (List ℕ)) (styles : List (List Run)) (has_more : Bool) where
  abbrev on : Pager → Pager
  on p = with_more more styles has_more p

  place-on : (q : Place) (p : Pager) → lines_through q.line p ≤ length p.document → at_place q (on p) ≡ on (at_place q p)
  place-on q p le =
      placed q (on p) (omega (arith, le, length-append p.document more)) ∙ sym (ap on (placed q p le))

  line-on : (line : ℕ) (p : Pager) → lines_through line p ≤ length p.document → at_line line (on p) ≡ on (at_line line p)
  line-on line p le = place-on (text_place line 0) p le

  jumped-on : (line : ℕ) (p : Pager) → lines_through line p ≤ length p.document → jumped_to line (on p) ≡ on (jumped_to line p)
  jumped-on line p le = line-on line (with_mark 0 p) le

  after-line-of : (k : ℕ) (p : Pager) → (place_after k p).line ≤ p.top + k
  after-line-of k p = by p.wraps
    where
      by : (b : Bool) → (if b then places_after (breaking p) k (page_place p) else text_place (p.top + k) 0).line ≤ p.top + k
      by true = after-line (breaking p) k (page_place p)
      by false = omega arith

  after-on : (k : ℕ) (p : Pager) → p.top + k ≤ length p.document → place_after k (on p) ≡ place_after k p
  after-on k p le = by p.wraps
    where
      by : (b : Bool) → (if b then places_after (breaking (on p)) k (page_place p) else text_place (p.top + k) 0)
          ≡ (if b then places_after (breaking p) k (page_place p) else text_place (p.top + k) 0)
      by true = after-same (breaking p) (breaking (on p)) (length p.document) (breaking-more more styles has_more p) k (page_place p) le
      by false = refl

  further-on : (n : ℕ) (p : Pager) → further_needs n p ≤ length p.document → further n (on p) ≡ on (further n p)
  further-on n p le =
      let k : ℕ = or_number n p in
      let far = after-line-of k p in
      ap (λ q. at_place q (on p)) (after-on k p (omega (arith, le)))
      ∙ place-on (place_after k p) p (omega (arith, le, far))

  before-line-of : (k : ℕ) (p : Pager) → (place_before k p).line ≤ p.top
  before-line-of k p = by p.wraps
    where
      by : (b : Bool) → (if b then places_before (breaking p) k (page_place p) else text_place (p.top - k) 0).line ≤ p.top
      by true = before-line (breaking p) k (page_place p)
      by false = omega arith

  before-on : (k : ℕ) (p : Pager) → p.top ≤ length p.document → place_before k (on p) ≡ place_before k p
  before-on k p le = by p.wraps
    where
      by : (b : Bool) → (if b then places_before (breaking (on p)) k (page_place p) else text_place (p.top - k) 0)
          ≡ (if b then places_before (breaking p) k (page_place p) else text_place (p.top - k) 0)
      by true = before-same (breaking p) (breaking (on p)) (length p.document) (breaking-more more styles has_more p) k (page_place p) le
      by false = refl

  back-on : (n : ℕ) (p : Pager) → page_needs p ≤ length p.document → back n (on p) ≡ on (back n p)
  back-on n p le =
      let k : ℕ = or_number n p in
      let far = before-line-of k p in
      ap (λ q. at_place q (on p)) (before-on k p (omega (arith, le)))
      ∙ place-on (place_before k p) p (omega (arith, le, far))

  to-end : (p : Pager) → command_needs ToEnd p ≤ length p.document → after_move ToEnd (on p) ≡ on (after_move ToEnd p)
  to-end p le = by (p.number == 0) le
    where
      by : (b : Bool) → (if b then every_line p else lines_through (p.number - 1) p) ≤ length p.document
          → jumped_to ((if b then length (p.document ++ more) else p.number) - 1) (on p)
          ≡ on (jumped_to ((if b then length p.document else p.number) - 1) p)
      by true le = absurd (omega (arith, le))
      by false le = jumped-on (p.number - 1) p le

  found-on : (o : Option ℕ) (p : Pager) → match_needs 0 p o ≤ length p.document → found_at o (on p) ≡ on (found_at o p)
  found-on (Some k) p le = ap (λ (x : Pager). record x { found = Some k; note = Range }) (jumped-on k p le)
  found-on None p le = refl

  before-needs : (sought : Sought) (k : ℕ) (p : Pager) → search_needs true sought k p ≤ length p.document
      → found_at (last_match sought (p.document ++ more) k) (on p) ≡ on (found_at (last_match sought p.document k) p)
  before-needs sought k p le =
      let o : Option ℕ = last_match sought p.document k in
      ap (λ x. found_at x (on p)) (last-more sought p.document more k (omega (arith, le)))
      ∙ found-on o p (omega (arith, le))

  from-needs : (sought : Sought) (k : ℕ) (p : Pager) → search_needs false sought k p ≤ length p.document
      → found_at (next_match sought (p.document ++ more) k) (on p) ≡ on (found_at (next_match sought p.document k) p)
  from-needs sought k p le = by (next_match sought p.document k) refl le
    where
      by : (o : Option ℕ) → next_match sought p.document k ≡ o
          → match_needs (length p.document + every_line p) p o ≤ length p.document
          → found_at (next_match sought (p.document ++ more) k) (on p) ≡ on (found_at (next_match sought p.document k) p)
      by (Some m) is le =
          ap (λ x. found_at x (on p)) (from-more (has_match sought) k k p.document more m is) ∙ found-on (Some m) p le
          ∙ sym (ap (λ x. on (found_at x p)) is)
      by None is le = absurd (omega (arith, le))

  sought-on : (is_back : Bool) (p : Pager) → next_needs is_back p ≤ length p.document
      → sought_on is_back (on p) ≡ on (sought_on is_back p)
  sought-on true p le = before-needs p.sought (before_found p.found p.top) p le
  sought-on false p le = from-needs p.sought (after_found p.found p.top) p le

  abbrev stopped : Pager → Pager
  stopped p = record p { number = 0; found = None; note = Range }

  follow-on : (b : Bool) (p : Pager)
      → stopped (if b then on p else record (with_mark 0 (on p)) { mode = Following })
      ≡ on (stopped (if b then p else record (with_mark 0 p) { mode = Following }))
  follow-on true p = refl
  follow-on false p = refl

  obeyed-on : (command : Command) (p : Pager) → command_needs command p ≤ length p.document
      → obeyed command (on p) ≡ on (obeyed command p)
  obeyed-on (Digit d) p le = refl
  obeyed-on (Ask is_back) p le = refl
  obeyed-on Next p le = ap (λ (x : Pager). record x { number = 0 }) (sought-on p.is_back p le)
  obeyed-on Previous p le = ap (λ (x : Pager). record x { number = 0 }) (sought-on (not p.is_back) p le)
  obeyed-on Nothing p le = refl
  obeyed-on Down p le = ap stopped (further-on 1 p le)
  obeyed-on PageDown p le = ap stopped (further-on (page_rows p) p le)
  obeyed-on HalfDown p le = ap stopped (further-on (half_page p) p le)
  obeyed-on WheelDown p le = ap stopped (further-on 3 p le)
  obeyed-on Up p le = ap stopped (back-on 1 p le)
  obeyed-on PageUp p le = ap stopped (back-on (page_rows p) p le)
  obeyed-on HalfUp p le = ap stopped (back-on (half_page p) p le)
  obeyed-on WheelUp p le = ap stopped (back-on 3 p le)
  obeyed-on ToStart p le = ap stopped (jumped-on (or_number 1 p - 1) p le)
  obeyed-on ToEnd p le = ap stopped (to-end p le)
  obeyed-on ToPart p le = absurd (omega (arith, le))
  obeyed-on ToLeft p le = refl
  obeyed-on ToRight p le = refl
  obeyed-on Numbers p le = ap stopped (line-on p.top (record p { has_numbers = not p.has_numbers }) le)
  obeyed-on Wrap p le = ap stopped (line-on p.top (record p { wraps = not p.wraps; left = 0 }) le)
  obeyed-on Help p le = refl
  obeyed-on Quit p le = refl
  obeyed-on Details p le = refl
  obeyed-on Mark p le = refl
  obeyed-on Filter p le = refl
  obeyed-on ToMark p le = refl
  obeyed-on Turn p le = refl
  obeyed-on Follow p le = follow-on (is_some p.whole) p

  first-on : (is_back : Bool) (p : Pager) → search_needs is_back p.sought p.top p ≤ length p.document
      → found_at (if is_back then last_match p.sought (p.document ++ more) p.top
      else next_match p.sought (p.document ++ more) p.top) (on p)
      ≡ on (found_at (if is_back then last_match p.sought p.document p.top else next_match p.sought p.document p.top) p)
  first-on true p le = before-needs p.sought p.top p le
  first-on false p le = from-needs p.sought p.top p le

  match-same : (n : ℕ) (p : Pager) (sought : Sought) (o : Option ℕ)
      → match_needs n (record p { sought = sought }) o ≡ match_needs n p o
  match-same n p sought (Some k) = refl
  match-same n p sought None = refl

  needs-same : (is_back : Bool) (k : ℕ) (p : Pager) (sought : Sought)
      → search_needs is_back sought k (record p { sought = sought }) ≡ search_needs is_back sought k p
  needs-same true k p sought = ap (max k) (match-same 0 p sought (last_match sought p.document k))
  needs-same false k p sought =
      match-same (length p.document + every_line p) p sought (next_match sought p.document k)

  searched-on : (sought : Option Sought) (p : Pager) → typed_needs Asking sought p ≤ length p.document
      → taken_by Asking sought (on p) ≡ on (taken_by Asking sought p)
  searched-on None p le = refl
  searched-on (Some s) p le = first-on p.is_back (record p { sought = s })
      (subst (λ n. n ≤ length p.document) (sym (needs-same p.is_back p.top p s)) le)

  filtered-on : (sought : Option Sought) (p : Pager) → typed_needs Filtering sought p ≤ length p.document
      → taken_by Filtering sought (on p) ≡ on (taken_by Filtering sought p)
  filtered-on None p le = refl
  filtered-on (Some s) p le = absurd (omega (arith, le))

  gives-up-on : (e : Edit) (p : Pager) → gives_up e (on p) ≡ gives_up e p
  gives-up-on (edit.Insert c) p = refl
  gives-up-on edit.Yank p = refl
  gives-up-on (edit.MoveLeft r) p = refl
  gives-up-on (edit.MoveRight r) p = refl
  gives-up-on (edit.DeleteLeft r) p = refl
  gives-up-on (edit.DeleteRight r) p = refl
  gives-up-on (edit.KillLeft r) p = refl
  gives-up-on (edit.KillRight r) p = refl

  edited-by : (b : Bool) (typed : FieldData) (p : Pager)
      → (if b then record (on p) { mode = Reading } else record (on p) { typed = typed })
      ≡ on (if b then record p { mode = Reading } else record p { typed = typed })
  edited-by true typed p = refl
  edited-by false typed p = refl

  edited-on : (e : Edit) (p : Pager) → with_edit e (on p) ≡ on (with_edit e p)
  edited-on e p =
      ap (λ b. if b then record (on p) { mode = Reading } else record (on p) { typed = edited e p.typed }) (gives-up-on e p)
      ∙ edited-by (gives_up e p) (edited e p.typed) p

  asked-on : (answer : Answer) (p : Pager) → p.mode ≡ Asking → answer_needs Asking answer p ≤ length p.document
      → answered answer (on p) ≡ on (answered answer p)
  asked-on (Change e) p is le = edited-on e p
  asked-on Search p is le =
      ap (λ (m : Mode). record (taken_in m (on p)) { mode = Reading }) is
      ∙ ap (λ (x : Pager). record x { mode = Reading }) (searched-on (next_sought p) p le)
      ∙ sym (ap (λ (m : Mode). on (record (taken_in m p) { mode = Reading })) is)
  asked-on Cancel p is le = refl
  asked-on Ignore p is le = refl

  filter-on : (answer : Answer) (p : Pager) → p.mode ≡ Filtering → answer_needs Filtering answer p ≤ length p.document
      → answered answer (on p) ≡ on (answered answer p)
  filter-on (Change e) p is le = edited-on e p
  filter-on Search p is le =
      ap (λ (m : Mode). record (taken_in m (on p)) { mode = Reading }) is
      ∙ ap (λ (x : Pager). record x { mode = Reading }) (filtered-on (next_sought p) p le)
      ∙ sym (ap (λ (m : Mode). on (record (taken_in m p) { mode = Reading })) is)
  filter-on Cancel p is le = refl
  filter-on Ignore p is le = refl

  marked-on : (b : Bool) (mark : Option ℕ) (p : Pager)
      → (if b then letter_marked mark (on p) else on p) ≡ on (if b then letter_marked mark p else p)
  marked-on true (Some mark) p = refl
  marked-on true None p = refl
  marked-on false mark p = refl

  mark-on : (mark : Option ℕ) (p : Pager) → marked_line mark (on p) ≡ marked_line mark p
  mark-on (Some mark) p = refl
  mark-on None p = refl

  returned-by : (b : Bool) (line : Option ℕ) (p : Pager) → mark_needs p line ≤ length p.document
      → (if b then gone_back line (on p) else on p) ≡ on (if b then gone_back line p else p)
  returned-by true (Some line) p le = ap (λ (x : Pager). record x { found = None; mode = Reading }) (jumped-on line p le)
  returned-by true None p le = refl
  returned-by false line p le = refl

  returned-on : (b : Bool) (mark : Option ℕ) (p : Pager) → mark_needs p (marked_line mark p) ≤ length p.document
      → (if b then gone_back (marked_line mark (on p)) (on p) else on p)
      ≡ on (if b then gone_back (marked_line mark p) p else p)
  returned-on b mark p le =
      ap (λ line. if b then gone_back line (on p) else on p) (mark-on mark p) ∙ returned-by b (marked_line mark p) p le

  has-on : (e : Ending) (p : Pager) → has_text e (on p) ≡ has_text e p
  has-on ending.Quit p = refl
  has-on ending.Next p = refl
  has-on ending.Previous p = refl

  turned-by : (b : Bool) (e : Ending) (p : Pager)
      → (if b then record (on p) { mode = Reading; is_over = true; ending = e } else record (on p) { mode = Reading })
      ≡ on (if b then record p { mode = Reading; is_over = true; ending = e } else record p { mode = Reading })
  turned-by true e p = refl
  turned-by false e p = refl

  turned-on : (b : Bool) (e : Option Ending) (p : Pager)
      → (if b then turned_to e (on p) else on p) ≡ on (if b then turned_to e p else p)
  turned-on true (Some e) p =
      ap (λ h. if h then record (on p) { mode = Reading; is_over = true; ending = e } else record (on p) { mode = Reading })
      (has-on e p)
      ∙ turned-by (has_text e p) e p
  turned-on true None p = refl
  turned-on false e p = refl

  helped-on : (b : Bool) (p : Pager)
      → (if b then record (on p) { mode = Reading } else on p) ≡ on (if b then record p { mode = Reading } else p)
  helped-on true p = refl
  helped-on false p = refl

  acted-on : (m : Mode) (event : Event) (p : Pager) → p.mode ≡ m → mode_needs m event p ≤ length p.document
      → acted m event (on p) ≡ on (acted m event p)
  acted-on Reading event p is le = obeyed-on (event_command event) p le
  acted-on Asking event p is le = asked-on (event_answer event) p is le
  acted-on Filtering event p is le = filter-on (event_answer event) p is le
  acted-on Marking event p is le = marked-on (is_press event) (event_mark event) p
  acted-on Returning event p is le = returned-on (is_press event) (event_mark event) p le
  acted-on Turning event p is le = turned-on (is_press event) (event_ending event) p
  acted-on Helping event p is le = helped-on (is_press event) p
  acted-on Following event p is le = helped-on (is_press event) p

  sized-on : (size : Option (ℕ × ℕ)) (event : Event) (p : Pager) → size_needs size event p ≤ length p.document
      → updated_by size event (on p) ≡ on (updated_by size event p)
  sized-on (Some size) event p le = line-on p.top (record p { columns = size.0; rows = size.1 }) le
  sized-on None event p le = acted-on p.mode event p refl le

  -- what an event makes of a pager that knows what the event needs is the same, however many lines come after them
  pub enough : (p : Pager) (event : Event) → event_needs p event ≤ length p.document
      → updated (on p) event ≡ on (updated p event)
  enough p event le = sized-on (size_in event) event p le
