-- States that ask for nothing: what was read decides what they are.
use Rattle.std.specs.Prelude.{◌≡◌, ℕ, List, [], ◌∷◌, None}
use Rattle.std.specs.declared.time.Duration.{Duration}
use Rattle.ratatui_reads.specs.Reads as reads
use Rattle.ratatui_acts.specs.declared.message.Message.TheVariants as message
use Rattle.ratatui_acts.specs.Turns.{Turn, Came, Done, Standing, ActingRules}

-- the decoder and the state
abbrev pub seat_between : {S : Type 0} → Standing S → reads.Between S
seat_between b = record { decoder = b.decoder; state = b.state }

-- the reads among turns
abbrev pub turn_reads : {C R : Type 0} → List (Turn C R) → List (List ℕ)
turn_reads [] = []
turn_reads (Came bytes passed ∷ ts) = bytes ∷ turn_reads ts
turn_reads (Done command answer ∷ ts) = turn_reads ts

module _ {S C R : Type 0} (rules : ActingRules S C R) where
  -- what events make of a state
  abbrev pub event_rules : reads.Rules S
  event_rules = record {
    updated = λ s e. rules.updated s (message.Event e);
    is_over = rules.is_over;
    is_light = λ s e. rules.is_light s (message.Event e);
  }

  -- no state asks for anything, and a tick changes none
  pub record AsksNothing : Type 0 where
    pub asks : (s : S) → rules.asked s ≡ None
    pub ticks : (s : S) (passed : Duration) → rules.updated s (message.Tick passed) ≡ s
