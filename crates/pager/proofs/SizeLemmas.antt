-- The size of the page, whatever comes.
use Rattle.std.proofs.Common.{◌≡◌, ◌⊎◌, ℕ, ◌-◌, Bool, true, false, not, nat_lt, if◌then◌else◌, List, [], ◌∷◌, length, inl, inr}
use Rattle.std.proofs.Common.{Option, Some, None, IfSome, refl, ap, sym, subst, ◌∙◌, rules, is_some}
use Rattle.text_field.specs.{Field.FieldData, Field.field_text, Keys.edited}
use Rattle.ratatui_core.specs.{Layout.Size, Backend.size_of, Terminal.TerminalData}
use Rattle.ratatui_ansi.specs.Backend.{BackendState, shown_by}
use Rattle.ratatui_events.specs.declared.event.Event.{Event}
use Rattle.ratatui_reads.specs.Reads.{Between, size_in, later, last_size, next_state, all_updated, told_by, size_told}
use Rattle.ratatui_reads.specs.Sources.{Coming}
use Rattle.ratatui_acts.specs.declared.nothing.{Never.Never, Nothing.Nothing as Outside}
use Rattle.ratatui_acts.specs.Turns.{Turn as AnyTurn, Came, Done, Standing, turn_size}
use Rattle.ratatui_acts.specs.Runs.{Now, Past, HasRun, IsTurn}
use Rattle.ratatui_acts.specs.Reading.{event_rules}
use Rattle.ratatui_acts.proofs.{ReadingLemmas.turn-between, ReadingLemmas.some-none, RunLemmas.run-rests, TakingLemmas.Rests}
use Rattle.ratatui_app.specs.declared.on_glass.OnGlass.{OnGlass}
use Rattle.ratatui_app.specs.{Glass.HasSizeTold}
use Rattle.pager.specs.declared.pager.Pager.{Pager}
use Rattle.pager.specs.declared.pager.Mode.{Mode}
use Rattle.pager.specs.declared.pager.Mode.TheVariants.{Reading, Asking, Filtering, Marking, Returning, Turning, Helping, Following}
use Rattle.pager.specs.declared.answer.Answer.{Answer}
use Rattle.pager.specs.declared.answer.Answer.TheVariants.{Change, Search, Cancel, Ignore}
use Rattle.pager.specs.declared.command.Command.{Command}
use Rattle.pager.specs.declared.command.Command.TheVariants.{Nothing, Digit, Down, Up, PageDown, PageUp, HalfDown, HalfUp}
use Rattle.pager.specs.declared.command.Command.TheVariants.{WheelDown, WheelUp}
use Rattle.pager.specs.declared.command.Command.TheVariants.{ToStart, ToEnd, ToLeft, ToRight, Ask, Next, Previous, Numbers, Wrap}
use Rattle.pager.specs.declared.command.Command.TheVariants.{Help, Quit, ToPart, Details, Mark, ToMark, Turn, Filter, Follow}
use Rattle.pager.specs.declared.sought.Sought.{Sought}
use Rattle.pager.specs.Search.{next_match, last_match, matching}
use Rattle.pager.specs.Moves.{with_mark, found_at, before_found, after_found, sought_on, obeyed, next_sought}
use Rattle.pager.specs.Moves.{answered, acted, updated_by, updated, letter_marked, marked_line, gone_back}
use Rattle.pager.specs.Moves.{first_match, sought_first, all_lines, relined, with_lines, taken_by, has_text, turned_to, has_typed, gives_up}
use Rattle.pager.specs.declared.pager.Ending.{Ending}
use Rattle.pager.specs.Keys.{event_command, event_answer, event_mark, event_ending, is_press}
use Rattle.pager.proofs.ShowLemmas.{asks-nothing}
use Rattle.pager.specs.Paging.{paged_after, paging, paging_on, page_size, FillsScreen, FillsAlong}

found-same : (found : Option ℕ) (p : Pager) → page_size (found_at found p) ≡ page_size p
found-same (Some k) p = refl
found-same None p = refl

sought-same : (is_back : Bool) (p : Pager) → page_size (sought_on is_back p) ≡ page_size p
sought-same true p = found-same (last_match p.sought p.document (before_found p.found p.top)) p
sought-same false p = found-same (next_match p.sought p.document (after_found p.found p.top)) p

follow-same : (b : Bool) (p : Pager) → page_size (if b then p else record (with_mark 0 p) { mode = Following }) ≡ page_size p
follow-same true p = refl
follow-same false p = refl

obeyed-same : (command : Command) (p : Pager) → page_size (obeyed command p) ≡ page_size p
obeyed-same (Digit d) p = refl
obeyed-same (Ask is_back) p = refl
obeyed-same Next p = sought-same p.is_back p
obeyed-same Previous p = sought-same (not p.is_back) p
obeyed-same Nothing p = refl
obeyed-same Down p = refl
obeyed-same Up p = refl
obeyed-same PageDown p = refl
obeyed-same PageUp p = refl
obeyed-same HalfDown p = refl
obeyed-same HalfUp p = refl
obeyed-same WheelDown p = refl
obeyed-same WheelUp p = refl
obeyed-same ToStart p = refl
obeyed-same ToEnd p = refl
obeyed-same ToLeft p = refl
obeyed-same ToRight p = refl
obeyed-same Numbers p = refl
obeyed-same Wrap p = refl
obeyed-same Help p = refl
obeyed-same Quit p = refl
obeyed-same ToPart p = refl
obeyed-same Details p = refl
obeyed-same Mark p = refl
obeyed-same Filter p = refl
obeyed-same ToMark p = refl
obeyed-same Turn p = refl
obeyed-same Follow p = follow-same (is_some p.whole) p

first-same : (p : Pager) → page_size (sought_first p) ≡ page_size p
first-same p = found-same (first_match p.sought p) p

edited-same : (b : Bool) (typed : FieldData) (p : Pager)
    → page_size (if b then record p { mode = Reading } else record p { typed = typed }) ≡ page_size p
edited-same true typed p = refl
edited-same false typed p = refl

filtered-same : (b : Bool) (numbers : List ℕ) (p : Pager)
    → page_size (if b then with_lines numbers p else relined None [] (all_lines p) p) ≡ page_size p
filtered-same true numbers p = refl
filtered-same false numbers p = refl

taken-same : (mode : Mode) (sought : Option Sought) (p : Pager) → page_size (taken_by mode sought p) ≡ page_size p
taken-same mode None p = refl
taken-same Filtering (Some s) p = filtered-same (has_typed p) (matching s (all_lines p) (length (all_lines p))) p
taken-same Reading (Some s) p = first-same (record p { sought = s })
taken-same Asking (Some s) p = first-same (record p { sought = s })
taken-same Marking (Some s) p = first-same (record p { sought = s })
taken-same Returning (Some s) p = first-same (record p { sought = s })
taken-same Turning (Some s) p = first-same (record p { sought = s })
taken-same Helping (Some s) p = first-same (record p { sought = s })
taken-same Following (Some s) p = first-same (record p { sought = s })

answered-same : (answer : Answer) (p : Pager) → page_size (answered answer p) ≡ page_size p
answered-same (Change edit) p = edited-same (gives_up edit p) (edited edit p.typed) p
answered-same Search p = taken-same p.mode (next_sought p) p
answered-same Cancel p = refl
answered-same Ignore p = refl

marked-same : (b : Bool) (mark : Option ℕ) (p : Pager) → page_size (if b then letter_marked mark p else p) ≡ page_size p
marked-same true (Some mark) p = refl
marked-same true None p = refl
marked-same false mark p = refl

returned-same : (b : Bool) (line : Option ℕ) (p : Pager) → page_size (if b then gone_back line p else p) ≡ page_size p
returned-same true (Some line) p = refl
returned-same true None p = refl
returned-same false line p = refl

turned_to-same : (b : Bool) (e : Option Ending) (p : Pager) → page_size (if b then turned_to e p else p) ≡ page_size p
turned_to-same true None p = refl
turned_to-same true (Some e) p = by (has_text e p)
  where
    by : (b : Bool)
        → page_size (if b then record p { mode = Reading; is_over = true; ending = e } else record p { mode = Reading })
        ≡ page_size p
    by true = refl
    by false = refl
turned_to-same false e p = refl

helped-same : (b : Bool) (p : Pager) → page_size (if b then record p { mode = Reading } else p) ≡ page_size p
helped-same true p = refl
helped-same false p = refl

acted-same : (mode : Mode) (event : Event) (p : Pager) → page_size (acted mode event p) ≡ page_size p
acted-same Reading event p = obeyed-same (event_command event) p
acted-same Asking event p = answered-same (event_answer event) p
acted-same Filtering event p = answered-same (event_answer event) p
acted-same Marking event p = marked-same (is_press event) (event_mark event) p
acted-same Returning event p = returned-same (is_press event) (marked_line (event_mark event) p) p
acted-same Turning event p = turned_to-same (is_press event) (event_ending event) p
acted-same Helping event p = helped-same (is_press event) p
acted-same Following event p = helped-same (is_press event) p

-- the size that was told, or else another one
abbrev told_or : Option (ℕ × ℕ) → Size → Size
told_or (Some z) s = record { width = z.0; height = z.1 }
told_or None s = s

sized-by : (told : Option (ℕ × ℕ)) (event : Event) (p : Pager) → page_size (updated_by told event p) ≡ told_or told (page_size p)
sized-by (Some z) event p = refl
sized-by None event p = acted-same p.mode event p

later-or : (new known : Option (ℕ × ℕ)) (s : Size) → told_or new (told_or known s) ≡ told_or (later new known) s
later-or (Some z) known s = refl
later-or None known s = refl

false-true : false ≡ true → ⊥
false-true e = search rules

-- over, or of the size that was told last
abbrev IsOfSize : Option (ℕ × ℕ) → Size → Pager → Type 0
IsOfSize told s p = (p.is_over ≡ true) ⊎ (page_size p ≡ told_or told s)

next-sized : (over : Bool) (event : Event) (known : Option (ℕ × ℕ)) (s : Size) (p : Pager) → p.is_over ≡ over
    → IsOfSize known s p → IsOfSize (later (size_in event) known) s (if over then p else updated p event)
unfolding paged_after
next-sized true event known s p is sized = inl is
next-sized false event known s p is (inl over) = absurd (false-true (sym is ∙ over))
next-sized false event known s p is (inr sized) = inr (sized-by (size_in event) event p ∙ ap (told_or (size_in event)) sized
    ∙ later-or (size_in event) known s)

all-sized : (events : List Event) (known : Option (ℕ × ℕ)) (s : Size) (p : Pager) → IsOfSize known s p
    → IsOfSize (last_size known events) s (all_updated (event_rules paging) p events)
unfolding paged_after
all-sized [] known s p sized = sized
all-sized (e ∷ events) known s p sized =
    all-sized events (later (size_in e) known) s (next_state (event_rules paging) p e)
    (next-sized p.is_over e known s p refl sized)

module _ {W : Type 0} where
  -- the terminal has the size that it was told, or its own
  taken : (told : Option (ℕ × ℕ)) (s t : TerminalData (BackendState W)) → HasSizeTold told s t
      → told_or told (size_of (shown_by s.backend)) ≡ size_of (shown_by t.backend)
  taken None s t has = sym has
  taken (Some z) s t has = sym has

  moved : (told : Option (ℕ × ℕ)) (p : Pager) (s t : TerminalData (BackendState W))
      → IsOfSize told (size_of (shown_by s.backend)) p
      → told_or told (size_of (shown_by s.backend)) ≡ size_of (shown_by t.backend) → FillsScreen p t
  moved told p s t (inl over) same = inl over
  moved told p s t (inr sized) same = inr (sized ∙ same)

  -- the first frame keeps the size
  pub fills-first : (p : Pager) (s t : TerminalData (BackendState W))
      → size_of (shown_by t.backend) ≡ size_of (shown_by s.backend) → FillsScreen p s → FillsScreen p t
  fills-first p s t same (inl over) = inl over
  fills-first p s t same (inr sized) = inr (sized ∙ sym same)

module _ {W H : Type 0} (coming : H → Coming) (has_size : (before after : Now Pager (OnGlass W) H Outside)
    (turn : AnyTurn Never Never) → IsTurn (paging_on coming) before turn after
    → HasSizeTold (turn_size before.standing turn) before.glass.terminal after.glass.terminal) where
  -- a turn
  fills-turn : (before : Now Pager (OnGlass W) H Outside) (turn : AnyTurn Never Never) (after : Now Pager (OnGlass W) H Outside)
      → Rests paging before.standing → (is : IsTurn (paging_on coming) before turn after)
      → FillsScreen before.standing.state before.glass.terminal
      → FillsScreen after.standing.state after.glass.terminal
  fills-turn before (Came bytes passed) after rests is fits =
      let b : Standing Pager = before.standing in
      let read = turn-between paging b bytes passed asks-nothing rests in
      let sized = all-sized (told_by b.decoder bytes).0 None (size_of (shown_by before.glass.terminal.backend)) b.state fits in
      let state = ap (λ (x : Standing Pager). x.state) is.made ∙ ap (λ (x : Between Pager). x.state) read in
      subst (λ (p : Pager). FillsScreen p after.glass.terminal) (sym state)
      (moved (size_told b.decoder bytes) (all_updated (event_rules paging) b.state (told_by b.decoder bytes).0)
      before.glass.terminal after.glass.terminal sized
      (taken (size_told b.decoder bytes) before.glass.terminal after.glass.terminal
      (has_size before after (Came bytes passed) is)))
  fills-turn before (Done command answer) after rests is fits =
      absurd (some-none paging command before.standing.state asks-nothing is.wanted)

  fills-now : (past : List (Past Pager Never Never (OnGlass W) H Outside)) (now : Now Pager (OnGlass W) H Outside)
      → FillsAlong past now → FillsScreen now.standing.state now.glass.terminal
  fills-now [] now fills = fills
  fills-now (p ∷ earlier) now fills = fills.0

  pub fills-along : (begun now : Now Pager (OnGlass W) H Outside) (past : List (Past Pager Never Never (OnGlass W) H Outside))
      → begun.standing.left ≡ [] → HasRun (paging_on coming) begun past now
      → FillsScreen begun.standing.state begun.glass.terminal → FillsAlong past now
  fills-along begun now [] none run fits =
      subst (λ (n : Now Pager (OnGlass W) H Outside). FillsScreen n.standing.state n.glass.terminal) (sym run) fits
  fills-along begun now (p ∷ earlier) none run fits =
      let before = fills-along begun p.before earlier none run.0 fits in (
        fills-turn p.before p.turn now (run-rests (paging_on coming) begun p.before earlier none run.0) run.1
            (fills-now earlier p.before before),
        before,
      )
