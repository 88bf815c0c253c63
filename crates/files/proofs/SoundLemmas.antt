-- Where something is changed, the screen had columns for the whole question.
use Rattle.std.proofs.Common.{◌≡◌, ◌||◌, inl, inr, Bool, true, false, if◌then◌else◌, List, [], ◌∷◌, ◌++◌, ℕ}
use Rattle.std.proofs.Common.{◌&&◌, Option, Some, None, refl, sym, ap, ◌∙◌, subst}
use Rattle.std.specs.Prelude.{is_some, nat_le, codes}
use Rattle.ratatui_core.specs.Buffer.{text_columns}
use Rattle.std.specs.declared.time.Duration.{Duration}
use Rattle.ratatui_events.specs.declared.event.Event.{Event}
use Rattle.ratatui_input.specs.declared.decoder.Decoder.{Decoder}
use Rattle.ratatui_reads.specs.{Reads.told_by}
use Rattle.ratatui_acts.specs.declared.message.Message.TheVariants as message
use Rattle.ratatui_acts.specs.Turns.{Turn, Came, Done, Standing, taking, ticked, waits, after_turn}
use Rattle.files.specs.declared.browser.Browser.{Browser}
use Rattle.files.specs.declared.browser.Mode.{Mode}
use Rattle.files.specs.declared.browser.Mode.TheVariants.{Looking, Listing, Entering, Leaving, Trashing, Removing}
use Rattle.files.specs.declared.browser.Mode.TheVariants.{Renaming, Making, Over, Pasting, Sorting, Seeking}
use Rattle.files.specs.declared.browser.Mode.TheVariants.{Going, Visiting, Locating, Completing}
use Rattle.files.specs.declared.browser.Mode.TheVariants.{CountingToTrash, CountingToRemove}
use Rattle.files.specs.declared.browser.Mode.TheVariants.{Returning, Undoing, Helping, Chosen}
use Rattle.files.specs.declared.list.Outcome.{Outcome}
use Rattle.files.specs.declared.browser.Note.{Note}
use Rattle.files.specs.declared.browser.Note.TheVariants.{Place, Failed, Narrow, NoTrash, Missing, Noted, NothingNoted}
use Rattle.files.specs.declared.browser.Note.TheVariants.{NothingMoved, Outside, NothingAbove}
use Rattle.files.specs.Texts.{fits, subject, note_told, failure_text, status_in}
use Rattle.files.specs.declared.glance.Side.{Side}
use Rattle.files.specs.Glances.{is_looking, is_wide, side_lacking, side_wanted}
use Rattle.files.specs.Moves.{acts, asks, asks_in, browser_asked, is_over, browsed_after}
use Rattle.files.specs.Laws.{IsSound, browsing, is_change}
use Rattle.files.proofs.LawLemmas.{yes-counts, counted}

-- ---- what the status tells depends on neither of two flags

abbrev pub flagged : Bool → Bool → Browser → Browser
flagged sure quiet b = record b { is_sure = sure; is_quiet = quiet }

subject-flags : (m : Mode) (s q : Bool) (b : Browser) → subject m (flagged s q b) ≡ subject m b
subject-flags Looking s q b = refl
subject-flags Listing s q b = refl
subject-flags Entering s q b = refl
subject-flags Leaving s q b = refl
subject-flags Trashing s q b = refl
subject-flags Removing s q b = refl
subject-flags Renaming s q b = refl
subject-flags Making s q b = refl
subject-flags Pasting s q b = refl
subject-flags Sorting s q b = refl
subject-flags Seeking s q b = refl
subject-flags Going s q b = refl
subject-flags Visiting s q b = refl
subject-flags Locating s q b = refl
subject-flags Completing s q b = refl
subject-flags CountingToTrash s q b = refl
subject-flags CountingToRemove s q b = refl
subject-flags Over s q b = refl
subject-flags Returning s q b = refl
subject-flags Undoing s q b = refl
subject-flags Helping s q b = refl
subject-flags Chosen s q b = refl

note-flags : (n : Note) (s q : Bool) (b : Browser) → note_told n (flagged s q b) ≡ note_told n b
note-flags Place s q b = refl
note-flags (Failed m why) s q b = ap (λ text. text ++ codes ": " ++ failure_text why) (subject-flags m s q b)
note-flags Narrow s q b = refl
note-flags NoTrash s q b = refl
note-flags Missing s q b = refl
note-flags Noted s q b = refl
note-flags NothingNoted s q b = refl
note-flags NothingMoved s q b = refl
note-flags Outside s q b = refl
note-flags NothingAbove s q b = refl

pub status-flags : (m : Mode) (s q : Bool) (b : Browser) → status_in m (flagged s q b) ≡ status_in m b
status-flags Looking s q b = note-flags b.note s q b
status-flags Listing s q b = note-flags b.note s q b
status-flags Entering s q b = note-flags b.note s q b
status-flags Leaving s q b = note-flags b.note s q b
status-flags Trashing s q b = refl
status-flags Removing s q b = refl
status-flags Renaming s q b = refl
status-flags Making s q b = refl
status-flags Pasting s q b = refl
status-flags Sorting s q b = refl
status-flags Seeking s q b = refl
status-flags Going s q b = refl
status-flags Visiting s q b = refl
status-flags Locating s q b = refl
status-flags Completing s q b = refl
status-flags CountingToTrash s q b = note-flags b.note s q b
status-flags CountingToRemove s q b = note-flags b.note s q b
status-flags Undoing s q b = refl
status-flags Helping s q b = refl
status-flags Returning s q b = note-flags b.note s q b
status-flags Chosen s q b = note-flags b.note s q b
status-flags Over s q b = note-flags b.note s q b

fits-flags : (s q : Bool) (b : Browser) → fits b.size.width b ≡ true → fits b.size.width (flagged s q b) ≡ true
fits-flags s q b is = ap (λ text. nat_le (text_columns text) b.size.width) (status-flags b.mode s q b) ∙ is

-- ---- runs

asks-if : (a : Bool) (b : Browser) → is_some (if a then Some b else None) ≡ false → a ≡ false
asks-if true b is = absurd (cc)
asks-if false b is = refl

or-false : (a b : Bool) → (a || b) ≡ false → b ≡ false
or-false true b is = absurd (cc)
or-false false b is = is

pub neither : (a b : Bool) → (a || b) ≡ false → a ≡ false
neither true b is = absurd (cc)
neither false b is = refl

-- a browser that doesn't wait asks for nothing, and so is sure of nothing
pub unsure : (b : Browser) → waits browsing b ≡ false → IsSound b → b.is_sure ≡ false
unsure b off (inl is) = is
unsure b off (inr is) =
    let quiet = asks-if (asks b) b (or-false (is_over b) (is_some (browser_asked b)) off) in
    let bad : true ≡ false = sym is.0 ∙ neither (acts b) (is_some (side_wanted b)) quiet in absurd (cc)

counted-sound : (b : Browser) → asks_in b.mode true ≡ true → fits b.size.width b ≡ true → IsSound (counted b)
counted-sound b may whole = inr (may, fits-flags true false b whole)

sound-by : (sure : Bool) (b : Browser) (e : Event) → b.is_sure ≡ false → (browsed_after b (message.Event e)).is_sure ≡ sure
    → IsSound (browsed_after b (message.Event e))
sound-by false b e none is = inl is
sound-by true b e none is =
    let k = yes-counts b e none is in
    subst (λ (c : Browser). IsSound c) (sym k.2) (counted-sound b k.3 k.1)

pub event-sound : (b : Browser) (e : Event) → waits browsing b ≡ false → IsSound b → IsSound (browsed_after b (message.Event e))
event-sound b e off is = sound-by (browsed_after b (message.Event e)).is_sure b e (unsure b off is) refl

sound-if : (w : Bool) (one two : Standing Browser) → (w ≡ true → IsSound one.state) → (w ≡ false → IsSound two.state)
    → IsSound (if w then one else two).state
sound-if true one two a b = a refl
sound-if false one two a b = b refl

taking-sound : (d : Decoder) (events : List Event) (b : Browser) → IsSound b → IsSound (taking browsing d events b).state
taking-sound d [] b is = is
taking-sound d (e ∷ es) b is =
    sound-if (waits browsing b) (record { decoder = d; left = e ∷ es; state = b })
    (taking browsing d es (browsed_after b (message.Event e))) (λ on. is)
    (λ off. taking-sound d es (browsed_after b (message.Event e)) (event-sound b e off is))

tick-sound : (b : Browser) (passed : Duration) → IsSound b → IsSound (browsed_after b (message.Tick passed))
unfolding browsed_after
tick-sound b passed (inl is) = inl is
tick-sound b passed (inr is) = inr (is.0, fits-flags b.is_sure true b is.1)

pub ticked-sound : (bytes : List ℕ) (passed : Duration) (b : Browser) → IsSound b → IsSound (ticked browsing bytes passed b)
ticked-sound [] passed b is = tick-sound b passed is
ticked-sound (c ∷ bytes) passed b is = is

pub answer-sound : (b : Browser) (o : Outcome) → IsSound (browsed_after b (message.Answer o))
unfolding browsed_after
answer-sound b o = inl refl

pub turn-sound : (b : Standing Browser) (turn : Turn Browser Outcome) → IsSound b.state
    → IsSound (after_turn browsing b turn).state
turn-sound b (Came bytes passed) is =
    taking-sound (told_by b.decoder bytes).1 (b.left ++ (told_by b.decoder bytes).0) (ticked browsing bytes passed b.state)
    (ticked-sound bytes passed b.state is)
turn-sound b (Done c o) is =
    taking-sound b.decoder b.left (browsed_after b.state (message.Answer o)) (answer-sound b.state o)

self-by : (a : Bool) (b c : Browser) → (if a then Some b else None) ≡ Some c → b ≡ c
self-by true b c is = cc
self-by false b c is = absurd (cc)

-- what is asked for is told by the state itself
pub asked-self : (b c : Browser) → browser_asked b ≡ Some c → b ≡ c
asked-self b c is = self-by (asks b) b c is

pub asks-true : (a : Bool) (b c : Browser) → (if a then Some b else None) ≡ Some c → a ≡ true
asks-true true b c is = refl
asks-true false b c is = absurd (cc)

pub sure-in : (mode : Mode) (sure : Bool) → is_change mode ≡ true → asks_in mode sure ≡ true → sure ≡ true
sure-in Trashing sure change is = is
sure-in Removing sure change is = is
sure-in Renaming sure change is = is
sure-in Making sure change is = is
sure-in Pasting sure change is = is
sure-in Undoing sure change is = is
sure-in Returning sure change is = absurd (cc)
sure-in Helping sure change is = absurd (cc)
sure-in Chosen sure change is = absurd (cc)
sure-in Sorting sure change is = absurd (cc)
sure-in Seeking sure change is = absurd (cc)
sure-in Going sure change is = absurd (cc)
sure-in Visiting sure change is = absurd (cc)
sure-in Locating sure change is = absurd (cc)
sure-in Completing sure change is = absurd (cc)
sure-in CountingToTrash sure change is = absurd (cc)
sure-in CountingToRemove sure change is = absurd (cc)
sure-in Looking sure change is = absurd (cc)
sure-in Listing sure change is = absurd (cc)
sure-in Entering sure change is = absurd (cc)
sure-in Leaving sure change is = absurd (cc)
sure-in Over sure change is = absurd (cc)

-- nothing is looked at while a question stands that changes something
none-wanted : (mode : Mode) (quiet wide : Bool) (side : Option Side) → is_change mode ≡ true
    → (if is_looking mode && quiet && wide then side else None) ≡ None
none-wanted Trashing quiet wide side change = refl
none-wanted Removing quiet wide side change = refl
none-wanted Renaming quiet wide side change = refl
none-wanted Making quiet wide side change = refl
none-wanted Pasting quiet wide side change = refl
none-wanted Undoing quiet wide side change = refl
none-wanted Returning quiet wide side change = refl
none-wanted Helping quiet wide side change = refl
none-wanted Chosen quiet wide side change = refl
none-wanted Sorting quiet wide side change = refl
none-wanted Seeking quiet wide side change = refl
none-wanted Going quiet wide side change = refl
none-wanted Visiting quiet wide side change = refl
none-wanted Locating quiet wide side change = refl
none-wanted Completing quiet wide side change = refl
none-wanted CountingToTrash quiet wide side change = refl
none-wanted CountingToRemove quiet wide side change = refl
none-wanted Looking quiet wide side change = absurd (cc)
none-wanted Listing quiet wide side change = refl
none-wanted Entering quiet wide side change = refl
none-wanted Leaving quiet wide side change = refl
none-wanted Over quiet wide side change = refl

acts-by : (a : Bool) (side : Option Side) → side ≡ None → (a || is_some side) ≡ true → a ≡ true
acts-by true side none is = refl
acts-by false None none is = absurd (cc)
acts-by false (Some s) none is = absurd (cc)

pub acts-true : (b : Browser) → is_change b.mode ≡ true → asks b ≡ true → acts b ≡ true
acts-true b change is = acts-by (acts b) (side_wanted b)
    (none-wanted b.mode b.is_quiet (is_wide b.size.width) (side_lacking b) change) is

-- where a change is asked for, the screen has columns for the question
pub asked-whole : (b c : Browser) → IsSound b → browser_asked b ≡ Some c → is_change b.mode ≡ true → fits b.size.width b ≡ true
asked-whole b c (inl is) asked change =
    let on : b.is_sure ≡ true = sure-in b.mode b.is_sure change (acts-true b change (asks-true (asks b) b c asked)) in
    let bad : true ≡ false = sym on ∙ is in absurd (cc)
asked-whole b c (inr is) asked change = is.1
