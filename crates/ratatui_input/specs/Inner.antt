-- Words that only private contracts use: they follow the code.
use Rattle.std.specs.Prelude.{ℕ, ◌≡◌, ◌&&◌, [], ◌∷◌, Bool, true, false, Option, Some, None, nat_le}
use Rattle.ratatui_events.specs.declared.event.Event.{Event}
use Rattle.ratatui_input.specs.{declared.reader.Kept.Kept, Reading.kept_told}
use Rattle.ratatui_input.specs.declared.decoder.State.{State}
use Rattle.ratatui_input.specs.declared.decoder.Partial.{Partial}
use Rattle.ratatui_input.specs.declared.decoder.State.TheVariants.{Ground, Escape, Bracket}
use Rattle.ratatui_input.specs.declared.decoder.State.TheVariants.{Numbers, Character}
use Rattle.ratatui_input.specs.Decoding.{Next, Whole, More}

-- whether a byte goes on, and to which state; and the event that it makes whole
abbrev pub has_further : Next → Bool
has_further (More state) = true
has_further next = false

abbrev pub further_state : Next → State → State
further_state (More state) old = state
further_state next old = old

abbrev pub whole_event : Next → Option Event
whole_event (Whole event) = Some event
whole_event next = None

-- whether a byte goes on with a character
abbrev pub takes : Partial → ℕ → Bool
takes p b = nat_le 128 b && (nat_le p.low b && nat_le b p.high)

-- what has come where few bytes come
abbrev pub IsRare : State → Type 0
IsRare Ground = ⊥
IsRare Escape = ⊥
IsRare Bracket = ⊥
IsRare (Numbers s) = ⊥
IsRare (Character p) = ⊥
IsRare state = Unit {0}

-- the first of the events that are kept is told
abbrev pub TellsFirst : Kept → Event → Kept → Type 0
TellsFirst old event new = kept_told old ≡ (event ∷ (kept_told new).0, (kept_told new).1)

-- no event is kept, and nothing is left but what the decoder has
pub record TellsNothing (old new : Kept) : Type 0 where
  pub told : kept_told old ≡ ([], new.decoder)
  pub no_second : new.second ≡ None
  pub no_bytes : new.end ≡ 0
