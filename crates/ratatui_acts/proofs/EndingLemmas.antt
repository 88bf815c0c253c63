-- An event that ends each state ends a run.
use Rattle.std.proofs.Common.{◌≡◌, ◌≤◌, ◌+◌, ℕ, Bool, true, false, List, [], ◌∷◌, ◌++◌, length, refl, ap, sym, ◌∙◌, subst}
use Rattle.std.proofs.Common.{length-append, arith, append_assoc}
use Rattle.ratatui_events.specs.declared.event.Event.{Event}
use Rattle.ratatui_input.specs.declared.decoder.Decoder.{Decoder}
use Rattle.ratatui_acts.specs.declared.message.Message.TheVariants as message
use Rattle.ratatui_acts.specs.Turns.{Turn, Came, Done, Standing, ActingRules, waits, taking, after_turn, state_begun, queued}
use Rattle.ratatui_acts.specs.Runs.{Now, Ground, IsTurn}
use Rattle.ratatui_acts.specs.Reading.{AsksNothing}
use Rattle.ratatui_acts.specs.Endings.{EndsEach, ComesIn, IsToldIn}
use Rattle.ratatui_acts.proofs.TakingLemmas.{taking-waits, taking-first}
use Rattle.ratatui_acts.proofs.TurnLemmas.{true-false}
use Rattle.ratatui_acts.proofs.ReadingLemmas.{over-if}

-- a list isn't what is left of it after an element
none-shorter : (earlier later left : List Event) (e : Event) → (earlier ++ e ∷ later) ++ left ≡ left → ⊥
none-shorter earlier later left e same =
    let lengths = ap (λ (l : List Event). length l) same in
    let all = length-append (earlier ++ e ∷ later) left in
    let first = length-append earlier (e ∷ later) in
    omega (arith, lengths, all, first)

module _ {S C R : Type 0} (rules : ActingRules S C R) where
  abbrev IsOver : Standing S → Type 0
  IsOver b = rules.is_over b.state ≡ true

  over-waits : (s : S) → rules.is_over s ≡ true → waits rules s ≡ true
  over-waits s over = rw over refl

  -- right after the event the state is over
  ends-here : (d : Decoder) (e : Event) (es : List Event) (s : S) → EndsEach rules e → waits rules s ≡ false
      → IsOver (taking rules d (e ∷ es) s)
  ends-here d e es s ends on =
      let over = ends s on in
      let taken : taking rules d (e ∷ es) s ≡ record { decoder = d; left = es; state = rules.updated s (message.Event e) } =
      taking-first rules d e es s on ∙ taking-waits rules d es (rules.updated s (message.Event e)) (over-waits _ over) in
      subst (λ (b : Standing S). IsOver b) (sym taken) over

  -- events of which this one is told
  taking-told : (d : Decoder) (earlier later left : List Event) (e : Event) (s : S) → EndsEach rules e
      → (taking rules d ((earlier ++ e ∷ later) ++ left) s).left ≡ left
      → IsOver (taking rules d ((earlier ++ e ∷ later) ++ left) s)
  taking-told d [] later left e s ends is = by-waiting (waits rules s) refl
    where
      by-waiting : (b : Bool) → waits rules s ≡ b → IsOver (taking rules d (e ∷ later ++ left) s)
      by-waiting true w = absurd (none-shorter [] later left e
          (sym (ap (λ (b : Standing S). b.left) (taking-waits rules d (e ∷ later ++ left) s w)) ∙ is))
      by-waiting false on = ends-here d e (later ++ left) s ends on
  taking-told d (x ∷ earlier) later left e s ends is =
      by-waiting (waits rules s) refl (taking-told d earlier later left e (rules.updated s (message.Event x)) ends)
    where
      by-waiting : (b : Bool) → waits rules s ≡ b
          → ((taking rules d ((earlier ++ e ∷ later) ++ left) (rules.updated s (message.Event x))).left ≡ left
          → IsOver (taking rules d ((earlier ++ e ∷ later) ++ left) (rules.updated s (message.Event x))))
          → IsOver (taking rules d (x ∷ (earlier ++ e ∷ later) ++ left) s)
      by-waiting true w others = absurd (none-shorter (x ∷ earlier) later left e
          (sym (ap (λ (b : Standing S). b.left) (taking-waits rules d (x ∷ (earlier ++ e ∷ later) ++ left) s w)) ∙ is))
      by-waiting false on others =
          let first = taking-first rules d x ((earlier ++ e ∷ later) ++ left) s on in
          subst (λ (b : Standing S). IsOver b) (sym first)
          (others (sym (ap (λ (b : Standing S). b.left) first) ∙ is))

  -- a state that asks for nothing waits only where it is over
  waiting-over : (d : Decoder) (es : List Event) (s : S) → AsksNothing rules → waits rules s ≡ true → IsOver (taking rules d es s)
  waiting-over d es s nothing w =
      subst (λ (b : Standing S). IsOver b) (sym (taking-waits rules d es s w)) (over-if rules s nothing w)

  -- events among which this one is, told to a state that asks for nothing
  taking-come : (d : Decoder) (earlier later : List Event) (e : Event) (s : S) → AsksNothing rules → EndsEach rules e
      → IsOver (taking rules d (earlier ++ e ∷ later) s)
  taking-come d [] later e s nothing ends = by-waiting (waits rules s) refl
    where
      by-waiting : (b : Bool) → waits rules s ≡ b → IsOver (taking rules d (e ∷ later) s)
      by-waiting true w = waiting-over d (e ∷ later) s nothing w
      by-waiting false on = ends-here d e later s ends on
  taking-come d (x ∷ earlier) later e s nothing ends =
      by-waiting (waits rules s) refl (taking-come d earlier later e (rules.updated s (message.Event x)) nothing ends)
    where
      by-waiting : (b : Bool) → waits rules s ≡ b
          → IsOver (taking rules d (earlier ++ e ∷ later) (rules.updated s (message.Event x)))
          → IsOver (taking rules d (x ∷ earlier ++ e ∷ later) s)
      by-waiting true w others = waiting-over d (x ∷ earlier ++ e ∷ later) s nothing w
      by-waiting false on others =
          subst (λ (b : Standing S). IsOver b) (sym (taking-first rules d x (earlier ++ e ∷ later) s on)) others

  -- a turn tells its events, one after the other, to the state that its first message makes
  turn-takes : (b : Standing S) (turn : Turn C R) → (d : Decoder)
      × (after_turn rules b turn ≡ taking rules d (queued rules b turn) (state_begun rules b turn))
  turn-takes b (Came bytes passed) = (_, refl)
  turn-takes b (Done command answer) = (_, refl)

  pub told-ends : (b : Standing S) (turn : Turn C R) (e : Event) → EndsEach rules e → IsToldIn rules b turn e
      → IsOver (after_turn rules b turn)
  told-ends b turn e ends told =
      let takes = turn-takes b turn in
      let left = (after_turn rules b turn).left in
      let same : after_turn rules b turn ≡ taking rules takes.0 ((told.earlier ++ e ∷ told.later) ++ left) (state_begun rules b turn) =
      takes.1 ∙ ap (λ (es : List Event). taking rules takes.0 es (state_begun rules b turn)) told.among in
      subst (λ (b : Standing S). IsOver b) (sym same)
      (taking-told takes.0 told.earlier told.later left e (state_begun rules b turn) ends
      (sym (ap (λ (b : Standing S). b.left) same)))

  pub coming-ends : (b : Standing S) (turn : Turn C R) (e : Event) → AsksNothing rules → EndsEach rules e
      → ComesIn rules b turn e → IsOver (after_turn rules b turn)
  coming-ends b turn e nothing ends comes =
      let takes = turn-takes b turn in
      let same : after_turn rules b turn ≡ taking rules takes.0 (comes.earlier ++ e ∷ comes.later) (state_begun rules b turn) =
      takes.1 ∙ ap (λ (es : List Event). taking rules takes.0 es (state_begun rules b turn)) comes.among in
      subst (λ (b : Standing S). IsOver b) (sym same)
      (taking-come takes.0 comes.earlier comes.later e (state_begun rules b turn) nothing ends)

module _ {S C R G E H O : Type 0} (ground : Ground S C R G E H O) where
  -- so no turn comes after it
  over-last : (between after : Now S G H O) (next : Turn C R) → ground.rules.is_over between.standing.state ≡ true
      → IsTurn ground between next after → ⊥
  over-last between after next over is = true-false (sym over ∙ is.goes_on)

  pub told-last : (e : Event) → EndsEach ground.rules e → (before between after : Now S G H O) (turn next : Turn C R)
      → IsTurn ground before turn between → IsToldIn ground.rules before.standing turn e → IsTurn ground between next after → ⊥
  told-last e ends before between after turn next made told =
      over-last between after next
      (subst (λ (b : Standing S). ground.rules.is_over b.state ≡ true) (sym made.made) (told-ends ground.rules before.standing turn e ends told))

  pub come-last : (e : Event) → AsksNothing ground.rules → EndsEach ground.rules e
      → (before between after : Now S G H O) (turn next : Turn C R)
      → IsTurn ground before turn between → ComesIn ground.rules before.standing turn e → IsTurn ground between next after → ⊥
  come-last e nothing ends before between after turn next made comes =
      over-last between after next
      (subst (λ (b : Standing S). ground.rules.is_over b.state ≡ true) (sym made.made)
      (coming-ends ground.rules before.standing turn e nothing ends comes))
