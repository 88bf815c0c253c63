-- Of states that ask for nothing the reads decide.
use Rattle.std.proofs.Common.{◌≡◌, ◌||◌, ℕ, Bool, true, false, List, [], ◌∷◌, ◌++◌, refl, ap, ap₂, sym, ◌∙◌, subst}
use Rattle.std.proofs.Common.{inl, inr, Option, Some, is_some}
use Rattle.std.specs.declared.time.Duration.{Duration}
use Rattle.ratatui_events.specs.declared.event.Event.{Event}
use Rattle.ratatui_input.specs.declared.decoder.Decoder.{Decoder}
use Rattle.ratatui_reads.specs.Reads.{Between, told_by, all_updated, next_state, after_read, after_reads}
use Rattle.ratatui_reads.specs.Sources.{Coming, ReadSoFar, GivesRead, GivesReads, read_room}
use Rattle.ratatui_reads.proofs.SourceLemmas.{gives-more, recorded-reads}
use Rattle.ratatui_acts.specs.Turns.{Turn, Came, Done, Standing, ActingRules, waits, taking, ticked, after_turn}
use Rattle.ratatui_acts.specs.Runs.{Now, Past, Ground, HasRun, IsTurn, turns_of}
use Rattle.ratatui_acts.specs.declared.message.Message.TheVariants as message
use Rattle.ratatui_acts.specs.Reading.{AsksNothing, seat_between, event_rules, turn_reads}
use Rattle.ratatui_acts.proofs.TakingLemmas.{Rests, taking-waits, taking-first}
use Rattle.ratatui_acts.proofs.TurnLemmas.{true-false}
use Rattle.ratatui_acts.proofs.RunLemmas.{run-rests}

-- one read more
reads-came : {C R : Type 0} (ts : List (Turn C R)) (bytes : List ℕ) (passed : Duration)
    → turn_reads (ts ++ (Came bytes passed ∷ [])) ≡ turn_reads ts ++ (bytes ∷ [])
reads-came [] bytes passed = refl
reads-came (Came b p ∷ ts) bytes passed = ap (λ (l : List (List ℕ)). b ∷ l) (reads-came ts bytes passed)
reads-came (Done command answer ∷ ts) bytes passed = reads-came ts bytes passed

reads-done : {C R : Type 0} (ts : List (Turn C R)) (c : C) (r : R) → turn_reads (ts ++ (Done c r ∷ [])) ≡ turn_reads ts
reads-done [] c r = refl
reads-done (Came b p ∷ ts) c r = ap (λ (l : List (List ℕ)). b ∷ l) (reads-done ts c r)
reads-done (Done command answer ∷ ts) c r = reads-done ts c r

-- what is recorded is one list of reads
past_of : Coming → List (List ℕ)
past_of (ReadSoFar past) = past
past_of _ = []

same-past : (before after : List (List ℕ)) → ReadSoFar before ≡ ReadSoFar after → before ≡ after
unfolding past_of
same-past before after same = ap past_of same

module _ {S C R : Type 0} (rules : ActingRules S C R) where
  reads-more : (b : Between S) (rs : List (List ℕ)) (r : List ℕ)
      → after_reads (event_rules rules) b (rs ++ (r ∷ [])) ≡ after_read (event_rules rules) (after_reads (event_rules rules) b rs) r
  reads-more b [] r = refl
  reads-more b (x ∷ rs) r = reads-more (after_read (event_rules rules) b x) rs r

  over-next : (s : S) (e : Event) → rules.is_over s ≡ true → next_state (event_rules rules) s e ≡ s
  over-next s e over = rw over refl

  on-next : (s : S) (e : Event) → rules.is_over s ≡ false
      → next_state (event_rules rules) s e ≡ rules.updated s (message.Event e)
  on-next s e on = rw on refl

  -- a state that is over takes no events
  all-over : (s : S) (es : List Event) → rules.is_over s ≡ true → all_updated (event_rules rules) s es ≡ s
  all-over s [] over = refl
  all-over s (e ∷ es) over =
      ap (λ (x : S). all_updated (event_rules rules) x es) (over-next s e over) ∙ all-over s es over

  is-waiting : (s : S) (b : Bool) → AsksNothing rules → rules.is_over s ≡ b → waits rules s ≡ b
  is-waiting s b nothing is = ap₂ (λ (x : Bool) (o : Option C). x || is_some o) is (nothing.asks s) ∙ or-false b
    where
      or-false : (b : Bool) → (b || false) ≡ b
      or-false true = refl
      or-false false = refl

  taking-between : (d : Decoder) (es : List Event) (s : S) → AsksNothing rules
      → seat_between (taking rules d es s) ≡ record { decoder = d; state = all_updated (event_rules rules) s es }
  taking-between d [] s nothing = refl
  taking-between d (e ∷ es) s nothing =
      by-over (rules.is_over s) refl (taking-between d es (rules.updated s (message.Event e)) nothing)
    where
      by-over : (b : Bool) → rules.is_over s ≡ b
          → seat_between (taking rules d es (rules.updated s (message.Event e)))
          ≡ record { decoder = d; state = all_updated (event_rules rules) (rules.updated s (message.Event e)) es }
          → seat_between (taking rules d (e ∷ es) s) ≡ record { decoder = d; state = all_updated (event_rules rules) s (e ∷ es) }
      by-over true over others =
          ap (λ (b : Standing S). seat_between b) (taking-waits rules d (e ∷ es) s (is-waiting s true nothing over))
          ∙ ap (λ (x : S). record { decoder = d; state = x }) (sym (all-over s (e ∷ es) over))
      by-over false on others =
          ap (λ (b : Standing S). seat_between b) (taking-first rules d e es s (is-waiting s false nothing on))
          ∙ others
          ∙ ap (λ (x : S). record { decoder = d; state = all_updated (event_rules rules) x es }) (sym (on-next s e on))

  tick-nothing : (bytes : List ℕ) (passed : Duration) (s : S) → AsksNothing rules → ticked rules bytes passed s ≡ s
  tick-nothing [] passed s nothing = nothing.ticks s passed
  tick-nothing (b ∷ bytes) passed s nothing = refl

  pub over-if : (s : S) → AsksNothing rules → waits rules s ≡ true → rules.is_over s ≡ true
  over-if s nothing w = by-bool (rules.is_over s) refl
    where
      by-bool : (b : Bool) → rules.is_over s ≡ b → rules.is_over s ≡ true
      by-bool true is = is
      by-bool false is = absurd (true-false (sym w ∙ is-waiting s false nothing is))

  -- a read makes what its events make
  left-read : (b : Standing S) (es : List Event) → AsksNothing rules → Rests rules b
      → all_updated (event_rules rules) b.state (b.left ++ es) ≡ all_updated (event_rules rules) b.state es
  left-read b es nothing (inl none) = ap (λ (l : List Event). all_updated (event_rules rules) b.state (l ++ es)) none
  left-read b es nothing (inr w) =
      let over = over-if b.state nothing w in
      all-over b.state (b.left ++ es) over ∙ sym (all-over b.state es over)

  pub turn-between : (b : Standing S) (bytes : List ℕ) (passed : Duration) → AsksNothing rules → Rests rules b
      → seat_between (after_turn rules b (Came bytes passed)) ≡ after_read (event_rules rules) (seat_between b) bytes
  turn-between b bytes passed nothing rests =
      ap (λ (s : S). seat_between (taking rules (told_by b.decoder bytes).1 (b.left ++ (told_by b.decoder bytes).0) s))
      (tick-nothing bytes passed b.state nothing)
      ∙ taking-between (told_by b.decoder bytes).1 (b.left ++ (told_by b.decoder bytes).0) b.state nothing
      ∙ ap (λ (x : S). record { decoder = (told_by b.decoder bytes).1; state = x })
      (left-read b (told_by b.decoder bytes).0 nothing rests)

  pub some-none : (command : C) (s : S) → AsksNothing rules → rules.asked s ≡ Some command → ⊥
  some-none command s nothing is = true-false (ap (λ (o : Option C). is_some o) (sym is ∙ nothing.asks s))

module _ {S C R G E H O : Type 0} (ground : Ground S C R G E H O) where
  abbrev Reads : Now S G H O → Now S G H O → List (Turn C R) → Type 0
  Reads begun now ts = seat_between now.standing ≡ after_reads (event_rules ground.rules) (seat_between begun.standing) (turn_reads ts)

  turn-reads : AsksNothing ground.rules → (begun before now : Now S G H O) (ts : List (Turn C R)) (t : Turn C R)
      → Rests ground.rules before.standing → IsTurn ground before t now → Reads begun before ts → Reads begun now (ts ++ (t ∷ []))
  turn-reads nothing begun before now ts (Came bytes passed) rests is made =
      ap (λ (b : Standing S). seat_between b) is.made ∙ turn-between ground.rules before.standing bytes passed nothing rests
      ∙ ap (λ (x : Between S). after_read (event_rules ground.rules) x bytes) made
      ∙ sym (reads-more ground.rules (seat_between begun.standing) (turn_reads ts) bytes)
      ∙ ap (λ (l : List (List ℕ)). after_reads (event_rules ground.rules) (seat_between begun.standing) l) (sym (reads-came ts bytes passed))
  turn-reads nothing begun before now ts (Done command answer) rests is made =
      absurd (some-none ground.rules command before.standing.state nothing is.wanted)

  pub run-reads : AsksNothing ground.rules → (begun now : Now S G H O) (past : List (Past S C R G H O))
      → begun.standing.left ≡ [] → HasRun ground begun past now → Reads begun now (turns_of ground past)
  run-reads nothing begun now [] none is = ap (λ (n : Now S G H O). seat_between n.standing) is
  run-reads nothing begun now (p ∷ earlier) none is =
      turn-reads nothing begun p.before now (turns_of ground earlier) p.turn (run-rests ground begun p.before earlier none is.0)
      is.1 (run-reads nothing begun p.before earlier none is.0)

  turn-given : (coming : H → Coming)
      → ((h : H) (bytes : List ℕ) (passed : Duration) (h' : H) → ground.gives h read_room bytes passed h'
      → GivesRead read_room (coming h) (coming h') bytes)
      → (begun before now : Now S G H O) (ts : List (Turn C R)) (t : Turn C R) → IsTurn ground before t now
      → GivesReads (coming begun.ears) (coming before.ears) (turn_reads ts)
      → GivesReads (coming begun.ears) (coming now.ears) (turn_reads (ts ++ (t ∷ [])))
  turn-given coming f begun before now ts (Came bytes passed) is given =
      subst (λ (l : List (List ℕ)). GivesReads (coming begun.ears) (coming now.ears) l) (sym (reads-came ts bytes passed))
      (gives-more (coming begun.ears) (coming before.ears) (coming now.ears) (turn_reads ts) bytes given
      (f before.ears bytes passed now.ears is.given.0))
  turn-given coming f begun before now ts (Done command answer) is given =
      subst (λ (l : List (List ℕ)). GivesReads (coming begun.ears) (coming now.ears) l) (sym (reads-done ts command answer))
      (subst (λ (x : H). GivesReads (coming begun.ears) (coming x) (turn_reads ts)) (sym is.given.1) given)

  pub run-given : (coming : H → Coming)
      → ((h : H) (bytes : List ℕ) (passed : Duration) (h' : H) → ground.gives h read_room bytes passed h'
      → GivesRead read_room (coming h) (coming h') bytes)
      → (begun now : Now S G H O) (past : List (Past S C R G H O)) → HasRun ground begun past now
      → GivesReads (coming begun.ears) (coming now.ears) (turn_reads (turns_of ground past))
  run-given coming f begun now [] is = ap (λ (n : Now S G H O). coming n.ears) is
  run-given coming f begun now (p ∷ earlier) is =
      turn-given coming f begun p.before now (turns_of ground earlier) p.turn is.1
      (run-given coming f begun p.before earlier is.0)

  -- the reads are those that were recorded meanwhile
  pub run-recorded : (recorded : H → List (List ℕ))
      → ((h : H) (bytes : List ℕ) (passed : Duration) (h' : H) → ground.gives h read_room bytes passed h'
      → GivesRead read_room (ReadSoFar (recorded h)) (ReadSoFar (recorded h')) bytes)
      → (begun now : Now S G H O) (past : List (Past S C R G H O)) → HasRun ground begun past now
      → recorded now.ears ≡ recorded begun.ears ++ turn_reads (turns_of ground past)
  run-recorded recorded f begun now past is =
      same-past (recorded now.ears) (recorded begun.ears ++ turn_reads (turns_of ground past))
      (recorded-reads (recorded begun.ears) (turn_reads (turns_of ground past)) (ReadSoFar (recorded now.ears))
      (run-given (λ h. ReadSoFar (recorded h)) f begun now past is))
