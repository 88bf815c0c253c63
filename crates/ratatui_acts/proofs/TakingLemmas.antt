-- Events that are told one after the other.
use Rattle.std.proofs.Common.{◌≡◌, ℕ, ◌+◌, Bool, true, false, List, [], ◌∷◌, ◌++◌, length, refl, ap, sym, ◌∙◌, subst, ◌⊎◌, inl, inr, ◌||◌}
use Rattle.std.proofs.Common.{append-nil, append_assoc, length-append, ◌<◌, ◌≤◌, arith}
use Rattle.std.proofs.lemmas.Bool.{cases_lt}
use Rattle.ratatui_events.specs.declared.event.Event.{Event}
use Rattle.ratatui_input.specs.declared.decoder.Decoder.{Decoder}
use Rattle.std.specs.declared.time.Duration.{Duration}
use Rattle.ratatui_reads.specs.Reads as reads
use Rattle.ratatui_reads.proofs.CountLemmas.{room-count}
use Rattle.ratatui_acts.specs.declared.message.Message.TheVariants as message
use Rattle.ratatui_acts.specs.Redraws.{is_redraw, has_redraw}
use Rattle.ratatui_acts.specs.Turns.{Standing, ActingRules, waits, taking, all_told, events_room, Came, LacksPlaces}

-- a queue is told events
abbrev queue_rules : reads.Rules (List Event)
queue_rules = record {
  updated = λ (q : List Event) (e : Event). q ++ (e ∷ []);
  is_over = λ _. false;
  is_light = λ (q : List Event) (e : Event). length q < 2048;
}

pub queued : (q es : List Event) → reads.all_updated queue_rules q es ≡ q ++ es
queued q [] = sym (append-nil q)
queued q (e ∷ es) = queued (q ++ (e ∷ [])) es ∙ append_assoc q (e ∷ []) es

-- one that is refused an event has no room for all of them
pub queue-full : (q told after : List Event) → reads.RefusesAmong queue_rules told q after
    → events_room < length (q ++ told)
queue-full q told after r =
    let after_length : length after ≡ length (q ++ r.taken) = ap (λ (l : List Event). length l) (r.after_is ∙ queued q r.taken) in
    let all : length (q ++ told) ≡ length ((q ++ r.taken) ++ (r.next ∷ r.rest)) =
    ap (λ (l : List Event). length l) (ap (λ (l : List Event). q ++ l) r.told_is ∙ sym (append_assoc q r.taken (r.next ∷ r.rest))) in
    let sum = length-append (q ++ r.taken) (r.next ∷ r.rest) in
    by-room (cases_lt (length after) 2048) after_length all sum
  where
    by-room : (length after < 2048) ⊎ (2048 ≤ length after) → length after ≡ length (q ++ r.taken)
        → length (q ++ told) ≡ length ((q ++ r.taken) ++ (r.next ∷ r.rest))
        → length ((q ++ r.taken) ++ (r.next ∷ r.rest)) ≡ length (q ++ r.taken) + length (r.next ∷ r.rest)
        → events_room < length (q ++ told)
    by-room (inl few) a b c = absurd (r.heavy few)
    by-room (inr many) a b c = omega (arith, many, a, b, c)

-- one event more
redraw-one : (es : List Event) (e : Event) → has_redraw (es ++ (e ∷ [])) ≡ (has_redraw es || is_redraw e)
redraw-one [] e = by-bool (is_redraw e)
  where
    by-bool : (b : Bool) → (b || false) ≡ b
    by-bool true = refl
    by-bool false = refl
redraw-one (x ∷ es) e = by-bool (is_redraw x) (redraw-one es e)
  where
    by-bool : (b : Bool) → has_redraw (es ++ (e ∷ [])) ≡ (has_redraw es || is_redraw e)
        → (b || has_redraw (es ++ (e ∷ []))) ≡ ((b || has_redraw es) || is_redraw e)
    by-bool true is = refl
    by-bool false is = is

module _ {S C R : Type 0} (rules : ActingRules S C R) where
  -- a state that waits is told nothing
  pub taking-waits : (d : Decoder) (left : List Event) (s : S) → waits rules s ≡ true
      → taking rules d left s ≡ record { decoder = d; left = left; state = s }
  taking-waits d [] s w = refl
  taking-waits d (e ∷ es) s w = rw w refl

  -- another one is told the first event
  pub taking-first : (d : Decoder) (e : Event) (es : List Event) (s : S) → waits rules s ≡ false
      → taking rules d (e ∷ es) s ≡ taking rules d es (rules.updated s (message.Event e))
  taking-first d e es s w = rw w refl

  -- one event more
  all-told-one : (es : List Event) (e : Event) (s : S)
      → all_told rules s (es ++ (e ∷ [])) ≡ rules.updated (all_told rules s es) (message.Event e)
  all-told-one [] e s = refl
  all-told-one (x ∷ es) e s = all-told-one es e (rules.updated s (message.Event x))

  -- what is left of events, as a loop goes over them: it makes what all make
  pub record Left (d : Decoder) (all : List Event) (s : S) (d' : Decoder) (left : List Event) (s' : S) (done : ℕ)
      (anew : Bool) : Type 0 where
    pub same : taking rules d all s ≡ taking rules d' left s'
    pub count : length left + done ≡ length all
    pub told : List Event
    pub split : all ≡ told ++ left
    pub made : s' ≡ all_told rules s told
    pub is_anew : anew ≡ has_redraw told

  pub left-next : (d : Decoder) (all : List Event) (s : S) (d' : Decoder) (left : List Event) (s' : S) (done : ℕ) (anew : Bool)
      (e : Event) (es : List Event) (s'' : S) → waits rules s' ≡ false → left ≡ e ∷ es → s'' ≡ rules.updated s' (message.Event e)
      → Left d all s d' left s' done anew → Left d all s d' es s'' (done + 1) (anew || is_redraw e)
  left-next d all s d' left s' done anew e es s'' goes_on is told h = record {
    same = h.same ∙ ap (λ (l : List Event). taking rules d' l s') is ∙ taking-first d' e es s' goes_on
        ∙ ap (λ (x : S). taking rules d' es x) (sym told);
    count = let n : length left ≡ length (e ∷ es) = ap (λ (l : List Event). length l) is in omega (arith, n, h.count);
    told = h.told ++ (e ∷ []);
    split = h.split ∙ ap (λ (l : List Event). h.told ++ l) is ∙ sym (append_assoc h.told (e ∷ []) es);
    made = told ∙ ap (λ (x : S). rules.updated x (message.Event e)) h.made ∙ sym (all-told-one h.told e s);
    is_anew = ap (λ (b : Bool). b || is_redraw e) h.is_anew ∙ sym (redraw-one h.told e);
  }

  -- by what is there then
  pub left-told : (d : Decoder) (all : List Event) (s : S) (d' : Decoder) (left : List Event) (s' : S) (done : ℕ) (anew : Bool)
      (e : Event) (es : List Event) (d'' : Decoder) (left'' : List Event) (s'' : S) (anew'' : Bool)
      → waits rules s' ≡ false → left ≡ e ∷ es → d'' ≡ d' → left'' ≡ es → s'' ≡ rules.updated s' (message.Event e)
      → anew'' ≡ (anew || is_redraw e)
      → Left d all s d' left s' done anew → Left d all s d'' left'' s'' (done + 1) anew''
  left-told d all s d' left s' done anew e es d'' left'' s'' anew'' goes_on is ed el told ea h =
      rw (ed, el, ea) (left-next d all s d' left s' done anew e es s'' goes_on is told h)

  -- the loop ends where the state waits, or nothing is left
  pub left-waits : (d : Decoder) (all : List Event) (s : S) (d' : Decoder) (left : List Event) (s' : S) (done : ℕ)
      (anew : Bool) → waits rules s' ≡ true → Left d all s d' left s' done anew
      → record { decoder = d'; left = left; state = s' } ≡ taking rules d all s
  left-waits d all s d' left s' done anew w h = sym (h.same ∙ taking-waits d' left s' w)

  -- a read lacks places only where something was left
  pub lacks-places : (b : Standing S) (bytes : List ℕ) (passed : Duration) (after : Standing S) → length bytes ≤ 1024
      → events_room < length (b.left ++ (reads.told_by b.decoder bytes).0) → after.left ≡ [] → after.state ≡ b.state
      → LacksPlaces rules b (Came bytes passed) after
  lacks-places b bytes passed after few many left state = record {
    read = tt;
    some = λ none. let all : length (b.left ++ (reads.told_by b.decoder bytes).0) ≡ length (reads.told_by b.decoder bytes).0
        = ap (λ (l : List Event). length (l ++ (reads.told_by b.decoder bytes).0)) none in
        let room = room-count b.decoder bytes few in omega (arith, all, room, many);
    many = many;
    state_is = state;
    left_is = left;
  }

  -- where a state waits, something may be left, and else nothing is
  abbrev pub Rests : Standing S → Type 0
  Rests b = (b.left ≡ []) ⊎ (waits rules b.state ≡ true)

  pub taking-rests : (d : Decoder) (es : List Event) (s : S) → Rests (taking rules d es s)
  taking-rests d [] s = inl refl
  taking-rests d (e ∷ es) s = by-wait (waits rules s) refl (taking-rests d es (rules.updated s (message.Event e)))
    where
      by-wait : (w : Bool) → waits rules s ≡ w → Rests (taking rules d es (rules.updated s (message.Event e)))
          → Rests (taking rules d (e ∷ es) s)
      by-wait true is rest = subst (λ (b : Standing S). Rests b) (sym (taking-waits d (e ∷ es) s is)) (inr is)
      by-wait false is rest = subst (λ (b : Standing S). Rests b) (sym (taking-first d e es s is)) rest
