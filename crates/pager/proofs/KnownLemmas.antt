-- The lines of a text, whatever comes.
use Rattle.std.proofs.Common.{◌≡◌, ℕ, Bool, true, false, not, if◌then◌else◌, List, [], ◌∷◌, ◌++◌, length}
use Rattle.std.proofs.Common.{Option, Some, None, refl, ap, sym, ◌∙◌, ◌||◌, ◌&&◌, is_some, rules}
use Rattle.std.specs.Prelude.{unwrap_or}
use Rattle.std.specs.Str.Lines.{lines}
use Rattle.std.specs.declared.time.Duration.{Duration}
use Rattle.ratatui_input.specs.declared.decoder.Decoder.{Decoder}
use Rattle.ratatui_acts.specs.declared.message.Message.TheVariants as message
use Rattle.ratatui_acts.specs.Turns.{Came, Done, Standing, waits, taking, ticked, after_turn}
use Rattle.text_field.specs.{Field.FieldData, Field.field_text, Keys.edited}
use Rattle.ratatui_events.specs.declared.event.Event.{Event}
use Rattle.ratatui_reads.specs.Reads.{size_in}
use Rattle.pager.specs.declared.pager.Pager.{Pager}
use Rattle.pager.specs.declared.pager.Mode.{Mode}
use Rattle.pager.specs.declared.pager.Mode.TheVariants.{Reading, Asking, Filtering, Marking, Returning, Turning, Helping, Following}
use Rattle.pager.specs.declared.answer.Answer.{Answer}
use Rattle.pager.specs.declared.answer.Answer.TheVariants.{Change, Search, Cancel, Ignore}
use Rattle.pager.specs.declared.command.Command.{Command}
use Rattle.pager.specs.declared.command.Command.TheVariants.{Nothing, Digit, Down, Up, PageDown, PageUp, HalfDown, HalfUp}
use Rattle.pager.specs.declared.command.Command.TheVariants.{WheelDown, WheelUp}
use Rattle.pager.specs.declared.command.Command.TheVariants.{ToStart, ToEnd, ToLeft, ToRight, Ask, Next, Previous, Numbers, Wrap}
use Rattle.pager.specs.declared.command.Command.TheVariants.{Help, Quit, ToPart, Details, Mark, ToMark, Turn, Filter, Follow}
use Rattle.pager.specs.declared.pager.Note.TheVariants as note
use Rattle.pager.specs.declared.pager.Ending.{Ending}
use Rattle.pager.specs.declared.sought.Sought.{Sought}
use Rattle.pager.specs.Search.{next_match, last_match, matching}
use Rattle.pager.specs.Moves.{with_mark, at_line, found_at, before_found, after_found, sought_on, obeyed, next_sought}
use Rattle.pager.specs.Moves.{answered, acted, updated_by, updated, letter_marked, marked_line, gone_back}
use Rattle.pager.specs.Moves.{first_match, sought_first, all_lines, relined, with_lines, taken_by, taken_in, has_text, turned_to, has_typed, gives_up}
use Rattle.pager.specs.declared.piece.{More.More, Piece.Piece}
use Rattle.pager.specs.declared.growing.{Growing.Growing, Waiting.Waiting}
use Rattle.pager.specs.Growing.{event_needs, is_taken, is_due, is_quit, given_up, is_following, followed, needs_more}
use Rattle.pager.specs.Growing.{is_seeking_command, told_waiting}
use Rattle.pager.specs.Growing.{piece_known, heard, resumed, heard_after, grown_after, asked_for_more, growing}
use Rattle.pager.specs.Keys.{event_command, event_answer, event_mark, event_ending, is_press}

found-text : (found : Option ℕ) (p : Pager) → all_lines (found_at found p) ≡ all_lines p
found-text (Some k) p = refl
found-text None p = refl

sought-text : (is_back : Bool) (p : Pager) → all_lines (sought_on is_back p) ≡ all_lines p
sought-text true p = found-text (last_match p.sought p.document (before_found p.found p.top)) p
sought-text false p = found-text (next_match p.sought p.document (after_found p.found p.top)) p

follow-text : (b : Bool) (p : Pager)
    → all_lines (if b then p else record (with_mark 0 p) { mode = Following }) ≡ all_lines p
follow-text true p = refl
follow-text false p = refl

obeyed-text : (command : Command) (p : Pager) → all_lines (obeyed command p) ≡ all_lines p
obeyed-text (Digit d) p = refl
obeyed-text (Ask is_back) p = refl
obeyed-text Next p = sought-text p.is_back p
obeyed-text Previous p = sought-text (not p.is_back) p
obeyed-text Nothing p = refl
obeyed-text Down p = refl
obeyed-text Up p = refl
obeyed-text PageDown p = refl
obeyed-text PageUp p = refl
obeyed-text HalfDown p = refl
obeyed-text HalfUp p = refl
obeyed-text WheelDown p = refl
obeyed-text WheelUp p = refl
obeyed-text ToStart p = refl
obeyed-text ToEnd p = refl
obeyed-text ToLeft p = refl
obeyed-text ToRight p = refl
obeyed-text Numbers p = refl
obeyed-text Wrap p = refl
obeyed-text Help p = refl
obeyed-text Quit p = refl
obeyed-text ToPart p = refl
obeyed-text Details p = refl
obeyed-text Mark p = refl
obeyed-text Filter p = refl
obeyed-text ToMark p = refl
obeyed-text Turn p = refl
obeyed-text Follow p = follow-text (is_some p.whole) p

first-text : (p : Pager) → all_lines (sought_first p) ≡ all_lines p
first-text p = found-text (first_match p.sought p) p

edited-text : (b : Bool) (typed : FieldData) (p : Pager)
    → all_lines (if b then record p { mode = Reading } else record p { typed = typed }) ≡ all_lines p
edited-text true typed p = refl
edited-text false typed p = refl

searched-text : (p : Pager) → all_lines (taken_in Asking p) ≡ all_lines p
searched-text p = by (next_sought p)
  where
    by : (sought : Option Sought) → all_lines (taken_by Asking sought p) ≡ all_lines p
    by None = refl
    by (Some s) = first-text (record p { sought = s })

marked-text : (b : Bool) (mark : Option ℕ) (p : Pager) → all_lines (if b then letter_marked mark p else p) ≡ all_lines p
marked-text true (Some mark) p = refl
marked-text true None p = refl
marked-text false mark p = refl

returned-text : (b : Bool) (line : Option ℕ) (p : Pager) → all_lines (if b then gone_back line p else p) ≡ all_lines p
returned-text true (Some line) p = refl
returned-text true None p = refl
returned-text false line p = refl

turned-text : (b : Bool) (e : Option Ending) (p : Pager) → all_lines (if b then turned_to e p else p) ≡ all_lines p
turned-text true None p = refl
turned-text true (Some e) p = by (has_text e p)
  where
    by : (b : Bool)
        → all_lines (if b then record p { mode = Reading; is_over = true; ending = e } else record p { mode = Reading })
        ≡ all_lines p
    by true = refl
    by false = refl
turned-text false e p = refl

helped-text : (b : Bool) (p : Pager) → all_lines (if b then record p { mode = Reading } else p) ≡ all_lines p
helped-text true p = refl
helped-text false p = refl

true-false : true ≡ false → ⊥
true-false e = search rules

filtered-text : (b : Bool) (numbers : List ℕ) (p : Pager)
    → all_lines (record (if b then with_lines numbers p else relined None [] (all_lines p) p) { mode = Reading })
    ≡ all_lines p
filtered-text true numbers p = refl
filtered-text false numbers p = refl

typed-text : (answer : Answer) (p : Pager) → p.mode ≡ Asking → all_lines (answered answer p) ≡ all_lines p
typed-text (Change edit) p is = edited-text (gives_up edit p) (edited edit p.typed) p
typed-text Search p is = ap (λ n. all_lines (taken_in n p)) is ∙ searched-text p
typed-text Cancel p is = refl
typed-text Ignore p is = refl

filter-text : (answer : Answer) (p : Pager) → p.mode ≡ Filtering → all_lines (answered answer p) ≡ all_lines p
filter-text (Change edit) p is = edited-text (gives_up edit p) (edited edit p.typed) p
filter-text Search p is =
    ap (λ (n : Mode). all_lines (record (taken_in n p) { mode = Reading })) is ∙ by (next_sought p)
  where
    by : (sought : Option Sought) → all_lines (record (taken_by Filtering sought p) { mode = Reading }) ≡ all_lines p
    by None = refl
    by (Some s) = filtered-text (has_typed p) (matching s (all_lines p) (length (all_lines p))) p
filter-text Cancel p is = refl
filter-text Ignore p is = refl

acted-text : (m : Mode) (event : Event) (p : Pager) → p.mode ≡ m → all_lines (acted m event p) ≡ all_lines p
acted-text Reading event p is = obeyed-text (event_command event) p
acted-text Asking event p is = typed-text (event_answer event) p is
acted-text Filtering event p is = filter-text (event_answer event) p is
acted-text Marking event p is = marked-text (is_press event) (event_mark event) p
acted-text Returning event p is = returned-text (is_press event) (marked_line (event_mark event) p) p
acted-text Turning event p is = turned-text (is_press event) (event_ending event) p
acted-text Helping event p is = helped-text (is_press event) p
acted-text Following event p is = helped-text (is_press event) p

-- no event changes the lines
updated-text : (event : Event) (p : Pager) → all_lines (updated p event) ≡ all_lines p
updated-text event p = by (size_in event)
  where
    by : (size : Option (ℕ × ℕ)) → all_lines (updated_by size event p) ≡ all_lines p
    by (Some size) = refl
    by None = acted-text p.mode event p refl

-- ---- pieces

-- one of two
abbrev either : {A : Type 0} → Bool → A → A → A
either b x y = if b then x else y

waiting-text : (event : Event) (p : Pager) → all_lines (told_waiting event p) ≡ all_lines p
waiting-text event p = by (is_seeking_command p.mode event)
  where
    by : (b : Bool) → all_lines (if b then record p { note = note.Waiting } else p) ≡ all_lines p
    by true = refl
    by false = refl

heard-text : (rests : Bool) (event : Event) (p : Pager) → all_lines (heard rests event p).pager ≡ all_lines p
heard-text rests event p = by (is_taken rests event p)
  where
    by : (b : Bool) → all_lines (either {A = Growing} b (record { pager = updated p event; waiting = None; rests = rests })
        (record {
          pager = told_waiting event p;
          waiting = Some (record { event = event; lines = event_needs p event; known = length p.document });
          rests = rests;
        })).pager ≡ all_lines p
    by true = updated-text event p
    by false = waiting-text event p

resumed-text : (rests : Bool) (w : Option Waiting) (p : Pager) → all_lines (resumed rests w p).pager ≡ all_lines p
resumed-text rests None p = refl
resumed-text rests (Some w) p = by (is_due rests w p)
  where
    by : (b : Bool) → all_lines (either {A = Growing} b (heard rests w.event p)
        (record { pager = p; waiting = Some w; rests = rests })).pager ≡ all_lines p
    by true = heard-text rests w.event p
    by false = refl

given-text : (w : Waiting) (event : Event) (p : Pager) → all_lines (given_up w event p) ≡ all_lines p
given-text w event p = by (is_quit (event_command event))
  where
    by : (b : Bool) → all_lines (if b then obeyed Quit p else updated p w.event) ≡ all_lines p
    by true = obeyed-text Quit p
    by false = updated-text w.event p

told-text : (w : Option Waiting) (event : Event) (g : Growing)
    → all_lines (heard_after w event g).pager ≡ all_lines g.pager
told-text None event g = heard-text g.rests event g.pager
told-text (Some w) event g = by (is_some (size_in event)) (is_press event)
  where
    by : (a b : Bool) → all_lines (either {A = Growing} a (record g { pager = updated g.pager event })
        (either {A = Growing} b (record g { pager = given_up w event g.pager; waiting = None }) g)).pager
        ≡ all_lines g.pager
    by true b = updated-text event g.pager
    by false true = given-text w event g.pager
    by false false = refl

pub event-text : (g : Growing) (event : Event)
    → all_lines (grown_after g (message.Event event)).pager ≡ all_lines g.pager
unfolding grown_after
event-text g event = told-text g.waiting event g

-- events that are told one after the other
pub taking-text : (d : Decoder) (es : List Event) (g : Growing)
    → all_lines (taking growing d es g).state.pager ≡ all_lines g.pager
taking-text d [] g = refl
taking-text d (e ∷ es) g = by (waits growing g) (taking-text d es (grown_after g (message.Event e)))
  where
    by : (b : Bool)
        → all_lines (taking growing d es (grown_after g (message.Event e))).state.pager
        ≡ all_lines (grown_after g (message.Event e)).pager
        → all_lines (either {A = Standing Growing} b (record { decoder = d; left = e ∷ es; state = g })
        (taking growing d es (grown_after g (message.Event e)))).state.pager ≡ all_lines g.pager
    by true rest = refl
    by false rest = rest ∙ event-text g e

ticked-text : (bytes : List ℕ) (passed : Duration) (g : Growing)
    → all_lines (ticked growing bytes passed g).pager ≡ all_lines g.pager
unfolding grown_after
ticked-text [] passed g = refl
ticked-text (b ∷ bytes) passed g = refl

pub came-knows : (b : Standing Growing) (bytes : List ℕ) (passed : Duration)
    → all_lines (after_turn growing b (Came bytes passed)).state.pager ≡ all_lines b.state.pager
came-knows b bytes passed =
    taking-text _ _ (ticked growing bytes passed b.state) ∙ ticked-text bytes passed b.state

-- no line is hidden where a piece is asked for
asks-shows : (g : Growing) (more : More) → asked_for_more g ≡ Some more → g.pager.whole ≡ None
asks-shows g more is = by g.rests g.pager.whole (is_following g.pager.mode || (g.pager.has_more && needs_more g)) is
  where
    by : (a : Bool) (whole : Option (List (List ℕ))) (c : Bool)
        → (if not (a || is_some whole) && c then Some (record {}) else None) ≡ Some more → whole ≡ None
    by true whole c is = absurd (true-false (ap (λ (o : Option More). is_some o) (sym is)))
    by false (Some w) c is = absurd (true-false (ap (λ (o : Option More). is_some o) (sym is)))
    by false None c is = refl

-- a piece's lines come after all
piece-text : (piece : Piece) (p : Pager) → p.whole ≡ None
    → all_lines (piece_known piece p) ≡ all_lines p ++ lines piece.text.now
piece-text piece p none =
    ap (λ w. unwrap_or w (p.document ++ lines piece.text.now)) none
    ∙ sym (ap (λ w. unwrap_or w p.document ++ lines piece.text.now) none)

followed-text : (p : Pager) → all_lines (followed p) ≡ all_lines p
followed-text p = by (is_following p.mode)
  where
    by : (b : Bool) → all_lines (if b then at_line (length p.document) p else p) ≡ all_lines p
    by true = refl
    by false = refl

answered-text : (g : Growing) (piece : Piece)
    → all_lines (grown_after g (message.Answer piece)).pager ≡ all_lines (piece_known piece g.pager)
unfolding grown_after
answered-text g piece =
    resumed-text piece.rests g.waiting (followed (piece_known piece g.pager)) ∙ followed-text (piece_known piece g.pager)

pub done-knows : (b : Standing Growing) (more : More) (piece : Piece) → asked_for_more b.state ≡ Some more
    → all_lines (after_turn growing b (Done more piece)).state.pager
    ≡ all_lines b.state.pager ++ lines piece.text.now
done-knows b more piece asks =
    taking-text b.decoder b.left (grown_after b.state (message.Answer piece))
    ∙ answered-text b.state piece
    ∙ piece-text piece b.state.pager (asks-shows b.state more asks)
