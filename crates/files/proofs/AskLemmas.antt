-- Where something is changed, a read had found nothing while the question stood on the glass.
use Rattle.std.proofs.Common.{◌≡◌, ◌⊎◌, inl, inr, Bool, true, false, if◌then◌else◌, List, [], ◌∷◌, ◌++◌, ℕ}
use Rattle.std.proofs.Common.{Option, Some, None, refl, sym, ap, ◌∙◌, subst, codes}
use Rattle.std.specs.Prelude.{is_some}
use Rattle.std.specs.declared.time.Duration.{Duration}
use Rattle.ratatui_core.specs.Terminal.{TerminalError}
use Rattle.ratatui_ansi.specs.{declared.error.AnsiError.AnsiError}
use Rattle.ratatui_events.specs.declared.event.Event.{Event}
use Rattle.ratatui_input.specs.declared.decoder.Decoder.{Decoder}
use Rattle.ratatui_reads.specs.{Reads.told_by, Reads.size_in}
use Rattle.ratatui_acts.specs.declared.message.Message.TheVariants as message
use Rattle.ratatui_acts.specs.Turns.{Turn, Came, Done, Standing, taking, ticked, waits, after_turn}
use Rattle.ratatui_acts.specs.Runs.{Now, Past, Ground, IsTurn, HasRun}
use Rattle.ratatui_app.specs.declared.on_glass.OnGlass.{OnGlass}
use Rattle.files.specs.declared.browser.Browser.{Browser}
use Rattle.files.specs.declared.browser.Mode.{Mode}
use Rattle.files.specs.declared.browser.Mode.TheVariants.{Looking, Listing, Entering, Leaving, Trashing, Removing}
use Rattle.files.specs.declared.browser.Mode.TheVariants.{Renaming, Making, Over, Pasting, Sorting, Seeking}
use Rattle.files.specs.declared.browser.Mode.TheVariants.{Going, Visiting, Locating, Completing}
use Rattle.files.specs.declared.browser.Mode.TheVariants.{CountingToTrash, CountingToRemove}
use Rattle.files.specs.declared.browser.Mode.TheVariants.{Returning, Undoing, Helping, Chosen}
use Rattle.files.specs.declared.browser.Note.{Note}
use Rattle.files.specs.declared.browser.Note.TheVariants.{Place, Failed, Narrow, NoTrash, Missing, Noted, NothingNoted}
use Rattle.files.specs.declared.browser.Note.TheVariants.{NothingMoved, Outside, NothingAbove}
use Rattle.files.specs.declared.list.Outcome.{Outcome}
use Rattle.files.specs.Keys.{is_input}
use Rattle.files.specs.Texts.{subject, note_told, failure_text, status_in}
use Rattle.files.specs.Glances.{side_wanted}
use Rattle.files.specs.Moves.{acts, asks, browsed, browser_at_told_size, browsed_after}
use Rattle.files.specs.Laws.{IsSound, browsing, is_change}
use Rattle.files.specs.RunLaws.{AsksTheSame, StoodBefore, AskedTurn, WereAsked, browsing_on}
use Rattle.files.proofs.LawLemmas.{yes-counts, counted, quiet-stays}
use Rattle.files.proofs.SoundLemmas.{unsure, status-flags, flagged, asks-true, sure-in, event-sound, turn-sound, ticked-sound}
use Rattle.files.proofs.SoundLemmas.{answer-sound, asked-self, neither, acts-true}

-- ---- the same question

then-same : (a b c : Browser) → AsksTheSame a b → AsksTheSame b c → AsksTheSame a c
then-same a b c one two =
    record { mode = one.mode ∙ two.mode; folder = one.folder ∙ two.folder; status = one.status ∙ two.status }

flags-same : (s q : Bool) (b : Browser) → AsksTheSame b (flagged s q b)
flags-same s q b = record { mode = refl; folder = refl; status = sym (status-flags b.mode s q b) }

-- a size changes no question
subject-sized : (m : Mode) (size : ℕ × ℕ) (b : Browser) → subject m (browser_at_told_size (Some size) b) ≡ subject m b
subject-sized Looking size b = refl
subject-sized Listing size b = refl
subject-sized Entering size b = refl
subject-sized Leaving size b = refl
subject-sized Trashing size b = refl
subject-sized Removing size b = refl
subject-sized Renaming size b = refl
subject-sized Making size b = refl
subject-sized Pasting size b = refl
subject-sized Sorting size b = refl
subject-sized Seeking size b = refl
subject-sized Going size b = refl
subject-sized Visiting size b = refl
subject-sized Locating size b = refl
subject-sized Completing size b = refl
subject-sized CountingToTrash size b = refl
subject-sized CountingToRemove size b = refl
subject-sized Over size b = refl
subject-sized Returning size b = refl
subject-sized Undoing size b = refl
subject-sized Helping size b = refl
subject-sized Chosen size b = refl

note-sized : (n : Note) (size : ℕ × ℕ) (b : Browser) → note_told n (browser_at_told_size (Some size) b) ≡ note_told n b
note-sized Place size b = refl
note-sized (Failed m why) size b = ap (λ text. text ++ codes ": " ++ failure_text why) (subject-sized m size b)
note-sized Narrow size b = refl
note-sized NoTrash size b = refl
note-sized Missing size b = refl
note-sized Noted size b = refl
note-sized NothingNoted size b = refl
note-sized NothingMoved size b = refl
note-sized Outside size b = refl
note-sized NothingAbove size b = refl

status-sized : (m : Mode) (size : ℕ × ℕ) (b : Browser) → status_in m (browser_at_told_size (Some size) b) ≡ status_in m b
status-sized Looking size b = note-sized b.note size b
status-sized Listing size b = note-sized b.note size b
status-sized Entering size b = note-sized b.note size b
status-sized Leaving size b = note-sized b.note size b
status-sized Trashing size b = refl
status-sized Removing size b = refl
status-sized Renaming size b = refl
status-sized Making size b = refl
status-sized Pasting size b = refl
status-sized Sorting size b = refl
status-sized Seeking size b = refl
status-sized Going size b = refl
status-sized Visiting size b = refl
status-sized Locating size b = refl
status-sized Completing size b = refl
status-sized CountingToTrash size b = note-sized b.note size b
status-sized CountingToRemove size b = note-sized b.note size b
status-sized Undoing size b = refl
status-sized Helping size b = refl
status-sized Returning size b = note-sized b.note size b
status-sized Chosen size b = note-sized b.note size b
status-sized Over size b = note-sized b.note size b

sized-same : (size : Option (ℕ × ℕ)) (b : Browser) → AsksTheSame b (browser_at_told_size size b)
sized-same None b = record { mode = refl; folder = refl; status = refl }
sized-same (Some size) b = record { mode = refl; folder = refl; status = sym (status-sized b.mode size b) }

told-same : (input : Bool) (e : Event) (b : Browser)
    → (if input then record (browsed b.mode e b) { is_quiet = false } else browser_at_told_size (size_in e) b).is_quiet ≡ true
    → AsksTheSame b (if input then record (browsed b.mode e b) { is_quiet = false } else browser_at_told_size (size_in e) b)
told-same true e b is = absurd (cc)
told-same false e b is = sized-same (size_in e) b

event-same : (b : Browser) (e : Event) → (browsed_after b (message.Event e)).is_quiet ≡ true
    → AsksTheSame b (browsed_after b (message.Event e))
unfolding browsed_after
event-same b e is = told-same (is_input e) e b is

tick-same : (b : Browser) (passed : Duration) → AsksTheSame b (browsed_after b (message.Tick passed))
unfolding browsed_after
tick-same b passed = flags-same b.is_sure true b

answer-calm : (b : Browser) (o : Outcome) → ((browsed_after b (message.Answer o)).is_quiet ≡ false)
    × ((browsed_after b (message.Answer o)).is_sure ≡ false)
unfolding browsed_after
answer-calm b o = (refl, refl)

none-asks : (a : Bool) (b : Browser) → (if a then Some b else None) ≡ None → a ≡ false
none-asks true b is = absurd (cc)
none-asks false b is = refl

-- a sound browser that asks for nothing is sure of nothing
calm : (b : Browser) → asks b ≡ false → IsSound b → b.is_sure ≡ false
calm b off (inl is) = is
calm b off (inr is) = let bad : true ≡ false = sym is.0 ∙ neither (acts b) (is_some (side_wanted b)) off in absurd (cc)

-- ---- runs

abbrev Turns : Type 0 → Type 0 → Type 0 → Type 0
Turns W H O = List (Past Browser Browser Outcome (OnGlass W) H O)

module _ {W H O : Type 0} where
  stood-same : (past : Turns W H O) (b c : Browser) → AsksTheSame b c → StoodBefore b past → StoodBefore c past
  stood-same [] b c same stood = absurd stood
  stood-same (p ∷ earlier) b c same (inl there) = inl (record {
    passed = there.passed;
    nothing = there.nothing;
    shown = there.shown;
    unanswered = there.unanswered;
    same = then-same p.before.standing.state b c there.same same;
  })
  stood-same (p ∷ earlier) b c same (inr before) = inr (stood-same earlier b c same before)

  -- a browser that is quiet, or sure, was there before when a read found nothing
  abbrev Recalls : Turns W H O → Browser → Type 0
  Recalls past b = ((b.is_quiet ≡ true) ⊎ (b.is_sure ≡ true)) → StoodBefore b past

  event-recalls : (past : Turns W H O) (b : Browser) (e : Event) → waits browsing b ≡ false → IsSound b → Recalls past b
      → ((browsed_after b (message.Event e)).is_quiet ≡ true) ⊎ ((browsed_after b (message.Event e)).is_sure ≡ true)
      → StoodBefore (browsed_after b (message.Event e)) past
  event-recalls past b e off sound recalls (inl quiet) =
      stood-same past b (browsed_after b (message.Event e)) (event-same b e quiet) (recalls (inl (quiet-stays b e quiet).0))
  event-recalls past b e off sound recalls (inr sure) =
      let k = yes-counts b e (unsure b off sound) sure in
      subst (λ (c : Browser). StoodBefore c past) (sym k.2)
      (stood-same past b (counted b) (flags-same true false b) (recalls (inl k.0)))

  recalls-if : (past : Turns W H O) (w : Bool) (one two : Standing Browser) → (w ≡ true → Recalls past one.state)
      → (w ≡ false → Recalls past two.state) → Recalls past (if w then one else two).state
  recalls-if past true one two a b = a refl
  recalls-if past false one two a b = b refl

  taking-recalls : (past : Turns W H O) (d : Decoder) (events : List Event) (b : Browser) → IsSound b → Recalls past b
      → Recalls past (taking browsing d events b).state
  taking-recalls past d [] b sound recalls = recalls
  taking-recalls past d (e ∷ es) b sound recalls =
      recalls-if past (waits browsing b) (record { decoder = d; left = e ∷ es; state = b })
      (taking browsing d es (browsed_after b (message.Event e))) (λ on. recalls)
      (λ off. taking-recalls past d es (browsed_after b (message.Event e)) (event-sound b e off sound)
      (event-recalls past b e off sound recalls))

  -- a browser that is neither recalls nothing
  calm-recalls : (past : Turns W H O) (b : Browser) → b.is_quiet ≡ false → b.is_sure ≡ false → Recalls past b
  calm-recalls past b quiet sure (inl is) = let bad : false ≡ true = sym quiet ∙ is in absurd (cc)
  calm-recalls past b quiet sure (inr is) = let bad : false ≡ true = sym sure ∙ is in absurd (cc)

module _ {W H O : Type 0} (gives : H → ℕ → List ℕ → Duration → H → Type 0) (fails : H → H → Type 0)
    (answers : O → Browser → Outcome → O → Type 0) where
  abbrev at_glass : Ground Browser Browser Outcome (OnGlass W) (TerminalError AnsiError) H O
  at_glass = browsing_on gives fails answers

  -- what is known after some turns
  pub record Knows (now : Now Browser (OnGlass W) H O) (past : List (Past Browser Browser Outcome (OnGlass W) H O)) : Type 0 where
    pub sound : IsSound now.standing.state
    pub recalls : Recalls past now.standing.state
    pub asked : WereAsked past

  ticked-recalls : (earlier : List (Past Browser Browser Outcome (OnGlass W) H O)) (bytes : List ℕ) (passed : Duration)
      (before after : Now Browser (OnGlass W) H O) → IsSound before.standing.state → Recalls earlier before.standing.state
      → IsTurn at_glass before (Came bytes passed) after
      → Recalls (record { before = before; turn = Came bytes passed } ∷ earlier) (ticked browsing bytes passed before.standing.state)
  ticked-recalls earlier [] passed before after sound recalls is =
      let b = before.standing.state in
      let none : b.is_sure ≡ false = calm b (none-asks (asks b) b is.wanted) sound in
      λ why. inl (record {
        passed = passed;
        nothing = refl;
        shown = is.shown;
        unanswered = none;
        same = tick-same b passed;
      })
  ticked-recalls earlier (c ∷ bytes) passed before after sound recalls is = λ why. inr (recalls why)

  turn-recalls : (earlier : List (Past Browser Browser Outcome (OnGlass W) H O)) (turn : Turn Browser Outcome)
      (before after : Now Browser (OnGlass W) H O) → IsSound before.standing.state → Recalls earlier before.standing.state
      → IsTurn at_glass before turn after
      → Recalls (record { before = before; turn = turn } ∷ earlier) (after_turn browsing before.standing turn).state
  turn-recalls earlier (Came bytes passed) before after sound recalls is =
      let d = before.standing.decoder in
      taking-recalls (record { before = before; turn = Came bytes passed } ∷ earlier) (told_by d bytes).1
      (before.standing.left ++ (told_by d bytes).0) (ticked browsing bytes passed before.standing.state)
      (ticked-sound bytes passed before.standing.state sound)
      (ticked-recalls earlier bytes passed before after sound recalls is)
  turn-recalls earlier (Done c o) before after sound recalls is =
      let b = before.standing.state in
      taking-recalls (record { before = before; turn = Done c o } ∷ earlier) before.standing.decoder before.standing.left
      (browsed_after b (message.Answer o)) (answer-sound b o)
      (calm-recalls (record { before = before; turn = Done c o } ∷ earlier) (browsed_after b (message.Answer o)) (answer-calm b o).0 (answer-calm b o).1)

  turn-asked : (earlier : List (Past Browser Browser Outcome (OnGlass W) H O)) (turn : Turn Browser Outcome)
      (before after : Now Browser (OnGlass W) H O) → Recalls earlier before.standing.state → IsTurn at_glass before turn after
      → AskedTurn earlier turn
  turn-asked earlier (Came bytes passed) before after recalls is = tt
  turn-asked earlier (Done c o) before after recalls is =
      let b = before.standing.state in
      subst (λ (x : Browser). is_change x.mode ≡ true → StoodBefore x earlier) (asked-self b c is.wanted)
      (λ change. recalls (inr (sure-in b.mode b.is_sure change (acts-true b change (asks-true (asks b) b c is.wanted)))))

  pub run-asked : (begun now : Now Browser (OnGlass W) H O) (past : List (Past Browser Browser Outcome (OnGlass W) H O))
      → begun.standing.state.is_sure ≡ false → begun.standing.state.is_quiet ≡ false → HasRun at_glass begun past now
      → Knows now past
  run-asked begun now [] unsure_is unquiet_is has =
      subst (λ (n : Now Browser (OnGlass W) H O). Knows n []) (sym has)
      (record { sound = inl unsure_is; recalls = calm-recalls {W = W} {H = H} {O = O} [] begun.standing.state unquiet_is unsure_is; asked = tt })
  run-asked begun now (p ∷ earlier) unsure_is unquiet_is has =
      let k = run-asked begun p.before earlier unsure_is unquiet_is has.0 in record {
        sound = subst (λ (b : Standing Browser). IsSound b.state) (sym has.1.made) (turn-sound p.before.standing p.turn k.sound);
        recalls = subst (λ (b : Standing Browser). Recalls (p ∷ earlier) b.state) (sym has.1.made)
            (turn-recalls earlier p.turn p.before now k.sound k.recalls has.1);
        asked = (turn-asked earlier p.turn p.before now k.recalls has.1, k.asked);
      }
