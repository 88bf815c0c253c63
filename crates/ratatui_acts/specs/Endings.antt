-- Events that end a state, and so a run.
use Rattle.std.specs.Prelude.{◌≡◌, true, false, List, ◌∷◌, ◌++◌}
use Rattle.ratatui_events.specs.declared.event.Event.{Event}
use Rattle.ratatui_acts.specs.declared.message.Message.TheVariants as message
use Rattle.ratatui_acts.specs.Turns.{Turn, Standing, ActingRules, waits, queued, after_turn}

module _ {S C R : Type 0} (rules : ActingRules S C R) where
  -- an event ends each state that it can be told to
  abbrev pub EndsEach : Event → Type 0
  EndsEach e = (s : S) → waits rules s ≡ false → rules.is_over (rules.updated s (message.Event e)) ≡ true

  -- an event was among those that came in a turn, or waited for it
  pub record ComesIn (b : Standing S) (turn : Turn C R) (e : Event) : Type 0 where
    pub earlier : List Event
    pub later : List Event
    pub among : queued rules b turn ≡ earlier ++ e ∷ later

  -- it is one of those that were told in it: the others after them are left
  pub record IsToldIn (b : Standing S) (turn : Turn C R) (e : Event) : Type 0 where
    pub earlier : List Event
    pub later : List Event
    pub among : queued rules b turn ≡ (earlier ++ e ∷ later) ++ (after_turn rules b turn).left
