-- A text that comes piece by piece while it is shown: what each event needs of it, and what a piece makes of it.
use Rattle.std.specs.Prelude.{ℕ, Bool, true, false, not, ◌+◌, ◌-◌, ◌*◌, ◌==◌, ◌&&◌, ◌||◌, nat_le, nat_lt, max}
use Rattle.std.specs.Prelude.{if◌then◌else◌, List, [], ◌∷◌, ◌++◌, length, replicate, Option, Some, None, is_some}
use Rattle.std.specs.Prelude.{◌≡◌, ◌⊎◌, ⊤}
use Rattle.std.specs.{Str.byte, Str.IsUtf8, Str.Lines.lines, Io.KnownBytes.prepend_known}
use Rattle.ratatui_events.specs.declared.event.Event.{Event}
use Rattle.ratatui_reads.specs.Reads.{size_in}
use Rattle.ratatui_acts.specs.declared.message.Message.{Message}
use Rattle.ratatui_acts.specs.declared.message.Message.TheVariants as message
use Rattle.ratatui_acts.specs.Turns.{ActingRules}
use Rattle.pager.specs.declared.pager.Pager.{Pager}
use Rattle.pager.specs.declared.pager.Mode.{Mode}
use Rattle.pager.specs.declared.pager.Mode.TheVariants.{Reading, Asking, Filtering, Returning, Following}
use Rattle.pager.specs.declared.pager.Note.TheVariants as note
use Rattle.pager.specs.declared.answer.Answer.{Answer}
use Rattle.pager.specs.declared.answer.Answer.TheVariants.{Search}
use Rattle.pager.specs.declared.command.Command.{Command}
use Rattle.pager.specs.declared.command.Command.TheVariants.{Down, PageDown, HalfDown, WheelDown, ToStart, ToEnd}
use Rattle.pager.specs.declared.command.Command.TheVariants.{ToPart, Details, Next, Previous, Quit}
use Rattle.pager.specs.declared.piece.{More.More, Piece.Piece}
use Rattle.pager.specs.declared.growing.{Growing.Growing, Waiting.Waiting}
use Rattle.pager.specs.declared.styles.Run.{Run}
use Rattle.pager.specs.declared.sought.Sought.{Sought}
use Rattle.pager.specs.Keys.{event_command, event_answer, event_mark, is_press}
use Rattle.pager.specs.Parted.{has_signs}
use Rattle.pager.specs.Search.{next_match, last_match}
use Rattle.pager.specs.Places.{page_rows}
use Rattle.pager.specs.Moves.{or_number, half_page, after_found, before_found, next_sought, marked_line, updated}
use Rattle.pager.specs.Moves.{at_line, obeyed}

-- ---- how many lines an event needs

-- a page more than are known: whoever needs so many needs all
abbrev pub every_line : Pager → ℕ
every_line p = length p.document + page_rows p + 1

-- the lines through the page that begins at a line, and one line after it
abbrev pub lines_through : ℕ → Pager → ℕ
lines_through line p = line + page_rows p + 1

-- what the page needs that is shown
abbrev pub page_needs : Pager → ℕ
page_needs p = lines_through p.top p

-- what a move needs by so many rows further, or by the number
abbrev pub further_needs : ℕ → Pager → ℕ
further_needs n p = lines_through (p.top + or_number n p) p

-- what a search needs that finds a line, or else finds none
abbrev pub match_needs : ℕ → Pager → Option ℕ → ℕ
match_needs other p (Some k) = lines_through k p
match_needs other p None = other

-- a search back needs the lines before its first one; a search further needs twice as many as are known, and a page
-- more, unless it finds one of these
abbrev pub search_needs : Bool → Sought → ℕ → Pager → ℕ
search_needs true sought k p = max k (match_needs 0 p (last_match sought p.document k))
search_needs false sought k p = match_needs (length p.document + every_line p) p (next_match sought p.document k)

-- what a search needs that goes on
abbrev pub next_needs : Bool → Pager → ℕ
next_needs true p = search_needs true p.sought (before_found p.found p.top) p
next_needs false p = search_needs false p.sought (after_found p.found p.top) p

-- what a command needs: nothing to leave, and else at least the page
abbrev pub command_needs : Command → Pager → ℕ
command_needs Down p = further_needs 1 p
command_needs PageDown p = further_needs (page_rows p) p
command_needs HalfDown p = further_needs (half_page p) p
command_needs WheelDown p = further_needs 3 p
command_needs ToStart p = lines_through (or_number 1 p - 1) p
command_needs ToEnd p = if p.number == 0 then every_line p else lines_through (p.number - 1) p
command_needs ToPart p = every_line p
command_needs Details p = every_line p
command_needs Next p = next_needs p.is_back p
command_needs Previous p = next_needs (not p.is_back) p
command_needs Quit p = 0
command_needs _ p = page_needs p

-- what was typed needs, once it is taken: nothing, if it can't be sought
abbrev pub typed_needs : Mode → Option Sought → Pager → ℕ
typed_needs mode None p = 0
typed_needs Filtering (Some sought) p = every_line p
typed_needs _ (Some sought) p = search_needs p.is_back sought p.top p

-- what is typed needs nothing, until a filter or a search is taken
abbrev pub answer_needs : Mode → Answer → Pager → ℕ
answer_needs mode Search p = typed_needs mode (next_sought p) p
answer_needs _ _ p = 0

-- what a jump to a mark needs
abbrev pub mark_needs : Pager → Option ℕ → ℕ
mark_needs p (Some line) = lines_through line p
mark_needs p None = 0

abbrev pub mode_needs : Mode → Event → Pager → ℕ
mode_needs Reading event p = command_needs (event_command event) p
mode_needs Asking event p = answer_needs Asking (event_answer event) p
mode_needs Filtering event p = answer_needs Filtering (event_answer event) p
mode_needs Returning event p = mark_needs p (marked_line (event_mark event) p)
mode_needs _ event p = 0

-- a new size needs the page in it
abbrev pub size_needs : Option (ℕ × ℕ) → Event → Pager → ℕ
size_needs (Some size) event p = page_needs (record p { rows = size.1 })
size_needs None event p = mode_needs p.mode event p

-- how many lines must be known before an event can be taken
abbrev pub event_needs : Pager → Event → ℕ
event_needs p event = size_needs (size_in event) event p

-- so many lines are known, or all
abbrev pub knows : ℕ → Pager → Bool
knows n p = not p.has_more || nat_le n (length p.document)

-- a pager that knows more lines, in these styles, after which more may come or not
abbrev pub with_more : List (List ℕ) → List (List Run) → Bool → Pager → Pager
with_more more styles has_more p =
    record p { document = p.document ++ more; styles = styles; has_more = has_more }

-- ---- what an event seeks

-- a command that goes to one of all lines, or tells of all; the other ones go from the page to lines beside it
abbrev pub command_seeks : Command → Bool
command_seeks ToStart = true
command_seeks ToEnd = true
command_seeks ToPart = true
command_seeks Details = true
command_seeks Next = true
command_seeks Previous = true
command_seeks _ = false

-- a search or a filter that is typed seeks once it is taken
abbrev pub answer_seeks : Answer → Bool
answer_seeks Search = true
answer_seeks _ = false

abbrev pub mode_seeks : Mode → Event → Bool
mode_seeks Reading event = command_seeks (event_command event)
mode_seeks Asking event = answer_seeks (event_answer event)
mode_seeks Filtering event = answer_seeks (event_answer event)
mode_seeks _ event = false

-- an event seeks a line that isn't known, or all
abbrev pub seeks_unknown : Pager → Event → Bool
seeks_unknown p event =
    mode_seeks p.mode event && nat_lt (length p.document + page_rows p) (event_needs p event)

-- ---- what a piece makes of a text

-- the runs of styles of so many lines, and then those of more
abbrev pub more_styles : ℕ → List (List Run) → List (List Run) → List (List Run)
more_styles count styles [] = styles
more_styles count styles (r ∷ rs) = styles ++ (replicate (count - length styles) [] ++ r ∷ rs)

-- a pager that knows the lines of a piece, too
abbrev pub piece_known : Piece → Pager → Pager
piece_known piece p = record p {
  document = p.document ++ lines piece.text.now;
  styles = more_styles (length p.document) p.styles piece.styles;
  has_more = not piece.is_last;
}

-- the text is followed
abbrev pub is_following : Mode → Bool
is_following Following = true
is_following _ = false

-- a text that is followed shows its last page
abbrev pub followed : Pager → Pager
followed p = if is_following p.mode then at_line (length p.document) p else p

-- an event is taken if what it needs is known; or if the text gives nothing now, and the event seeks nothing unknown
abbrev pub is_taken : Bool → Event → Pager → Bool
is_taken rests event p = knows (event_needs p event) p || (rests && not (seeks_unknown p event))

-- a command that seeks something
abbrev pub is_seeking_command : Mode → Event → Bool
is_seeking_command Reading event = command_seeks (event_command event)
is_seeking_command _ event = false

-- the status tells that such a command waits
abbrev pub told_waiting : Event → Pager → Pager
told_waiting event p = if is_seeking_command p.mode event then record p { note = note.Waiting } else p

-- an event that isn't taken waits
abbrev pub heard : Bool → Event → Pager → Growing
heard rests event p =
    if is_taken rests event p then record { pager = updated p event; waiting = None; rests = rests }
    else record {
      pager = told_waiting event p;
      waiting = Some (record { event = event; lines = event_needs p event; known = length p.document });
      rests = rests;
    }

-- an event that waits is looked at again once so many lines are known; and if the text gives nothing now, also if
-- lines came since it was looked at, or it seeks nothing
abbrev pub is_due : Bool → Waiting → Pager → Bool
is_due rests w p =
    knows w.lines p || (rests && (nat_lt w.known (length p.document) || not (mode_seeks p.mode w.event)))

abbrev pub resumed : Bool → Option Waiting → Pager → Growing
resumed rests (Some w) p =
    if is_due rests w p then heard rests w.event p
    else record { pager = p; waiting = Some w; rests = rests }
resumed rests None p = record { pager = p; waiting = None; rests = rests }

-- the command that leaves
abbrev pub is_quit : Command → Bool
is_quit Quit = true
is_quit _ = false

-- a key ends the waiting: one that leaves does so, and else what waits is done with the lines that are known
abbrev pub given_up : Waiting → Event → Pager → Pager
given_up w event p = if is_quit (event_command event) then obeyed Quit p else updated p w.event

-- while an event waits a new size is taken, a key that is pressed ends the waiting, and nothing else is taken
abbrev pub heard_waiting : Waiting → Event → Growing → Growing
heard_waiting w event g =
    if is_some (size_in event) then record g { pager = updated g.pager event }
    else if is_press event then record g { pager = given_up w event g.pager; waiting = None }
    else g

abbrev pub heard_after : Option Waiting → Event → Growing → Growing
heard_after (Some w) event g = heard_waiting w event g
heard_after None event g = heard g.rests event g.pager

-- what a piece makes of a pager: its lines are known, too; a text that is followed shows them at its end; and the
-- event that waits is looked at
abbrev pub piece_taken : Growing → Piece → Growing
piece_taken g piece = resumed piece.rests g.waiting (followed (piece_known piece g.pager))

-- events move a pager, and pieces make its text grow; a text that gave nothing rests until the next tick
unfoldable pub grown_after : Growing → Message Piece → Growing
grown_after g (message.Event event) = heard_after g.waiting event g
grown_after g (message.Tick passed) = record g { rests = false }
grown_after g (message.Answer piece) = piece_taken g piece

-- an event waits, or the page needs more lines than are known
abbrev pub needs_more : Growing → Bool
needs_more g = is_some g.waiting || nat_lt (length g.pager.document) (page_needs g.pager)

-- the next piece is asked for while more lines are needed and may come, and while the text is followed; but not while
-- the text rests, or lines of it are hidden
abbrev pub asks_more : Growing → Bool
asks_more g =
    not (g.rests || is_some g.pager.whole)
    && (is_following g.pager.mode || (g.pager.has_more && needs_more g))

abbrev pub asked_for_more : Growing → Option More
asked_for_more g = if asks_more g then Some (record {}) else None

-- a pager of a text that grows, as a state that asks for pieces
abbrev pub growing : ActingRules Growing More Piece
growing = record {
  updated = grown_after;
  asked = asked_for_more;
  is_over = λ g. g.pager.is_over;
  is_light = λ _ _. ⊥;
}

-- ---- pieces of what a reader gives

-- bytes are whole lines: there are none, or the last one is a line's end
abbrev pub AreWholeLines : List ℕ → Type 0
AreWholeLines raw = (raw ≡ []) ⊎ ((front : List ℕ) × (raw ≡ front ++ byte "\n" ∷ []))

-- a piece of these bytes: they stand in it as they are, in no style, if they are UTF-8 without an escape or a
-- backspace
pub record IsPieceOf (raw : List ℕ) (piece : Piece) : Type 0 where
  pub text : IsUtf8 raw → has_signs raw ≡ false → piece.text.now ≡ raw
  pub plain : IsUtf8 raw → has_signs raw ≡ false → piece.styles ≡ []

-- a piece of the first bytes, which are whole lines, unless none is left after them; and the last piece is all
pub record GivesPiece (before : List ℕ) (piece : Piece) (after : List ℕ) : Type 0 where
  pub raw : List ℕ
  pub is : IsPieceOf raw piece
  pub first : before ≡ raw ++ after
  pub whole : piece.is_last ≡ false → AreWholeLines raw
  pub all : piece.is_last ≡ true → after ≡ []

-- what is still to be given: what was read and is kept, and then what a reader has left, if that is known
abbrev pub to_come : List ℕ → Option (List ℕ) → Option (List ℕ)
to_come rest left = prepend_known rest left

-- so it is given, where bytes are known
abbrev pub GivesKnownPiece : Option (List ℕ) → Piece → Option (List ℕ) → Type 0
GivesKnownPiece None piece after = ⊤
GivesKnownPiece (Some before) piece None = ⊥
GivesKnownPiece (Some before) piece (Some after) = GivesPiece before piece after
