-- What reads make of a decoder and of the state of an application.
use Rattle.std.specs.Prelude.{ℕ, if◌then◌else◌, List, [], ◌∷◌, ◌++◌}
use Rattle.ratatui_events.specs.declared.event.Event.{Event}
use Rattle.ratatui_input.specs.declared.decoder.Decoder.{Decoder}
use Rattle.std.specs.Prelude.{◌≡◌, ◌+◌, ◌*◌, min, nat_lt, nat_le, ◌&&◌, Option, Some, None}
use Rattle.ratatui_events.specs.declared.event.Event.TheVariants.{Size, Position}
use Rattle.ratatui_input.specs.Decoding.{Told, decoded, settled}
use Rattle.ratatui_reads.specs.declared.updates.Updates.{Ghosts}

-- what a read tells: the events of its bytes; where nothing came, what had come is taken as whole, as ESC is
abbrev pub told_by : Decoder → List ℕ → Told
told_by d [] = settled d.state d
told_by d (b ∷ bs) = decoded d (b ∷ bs)

-- a decoder and a state between two reads
pub record Between (S : Type 0) : Type 0 where
  pub decoder : Decoder
  pub state : S

-- what events make of a state, and which states take no more of them
abbrev pub Rules : Type 0 → Type 1
Rules = Ghosts

module _ {S : Type 0} (rules : Rules S) where
  -- an event is taken, unless the state is over
  abbrev pub next_state : S → Event → S
  next_state s e = if rules.is_over s then s else rules.updated s e

  -- the state after events, one after the other
  abbrev pub all_updated : S → List Event → S
  all_updated s [] = s
  all_updated s (e ∷ es) = all_updated (next_state s e) es

  -- what a read makes of both
  abbrev pub after_told : Told → S → Between S
  after_told told s = record { decoder = told.1; state = all_updated s told.0 }

  abbrev pub after_read : Between S → List ℕ → Between S
  after_read b bytes = after_told (told_by b.decoder bytes) b.state

  -- what bytes make of both in one read, or in any reads of which none is empty
  abbrev pub after_bytes : Between S → List ℕ → Between S
  after_bytes b bytes = after_told (decoded b.decoder bytes) b.state

  -- what reads make of both
  abbrev pub after_reads : Between S → List (List ℕ) → Between S
  after_reads b [] = b
  after_reads b (r ∷ rs) = after_reads (after_read b r) rs

  -- the update by one of these events, which isn't light, was refused memory: those before it were taken
  pub record RefusesAmong (told : List Event) (before after : S) : Type 0 where
    pub taken : List Event
    pub next : Event
    pub rest : List Event
    pub told_is : told ≡ taken ++ next ∷ rest
    pub after_is : after ≡ all_updated before taken
    pub heavy : rules.is_light after next → ⊥

-- all bytes of reads
abbrev pub all_bytes : List (List ℕ) → List ℕ
all_bytes [] = []
all_bytes (r ∷ rs) = r ++ all_bytes rs

-- no read is empty
abbrev pub IsNonEmpty : List ℕ → Type 0
IsNonEmpty [] = ⊥
IsNonEmpty (b ∷ bs) = Unit {0}

abbrev pub AreNonEmpty : List (List ℕ) → Type 0
AreNonEmpty [] = Unit {0}
AreNonEmpty (r ∷ rs) = IsNonEmpty r × AreNonEmpty rs

-- columns and rows, if these are a size: of one cell at least, and of a million at most
abbrev pub size_if : ℕ → ℕ → Option (ℕ × ℕ)
size_if columns rows = if nat_lt 0 (columns * rows) && nat_le (columns * rows) 1000000 then Some (
  columns,
  rows,
) else None

-- the size that an event tells: the terminal's columns and rows, or those up to the last place, where the
-- cursor was sent
-- to ask for them
abbrev pub size_in : Event → Option (ℕ × ℕ)
size_in (Size columns rows) = size_if columns rows
size_in (Position x y) = size_if (min (x + 1) 65535) (min (y + 1) 65535)
size_in _ = None

abbrev pub later : Option (ℕ × ℕ) → Option (ℕ × ℕ) → Option (ℕ × ℕ)
later (Some new) old = Some new
later None old = old

-- the last size that events tell, after one that is known
abbrev pub last_size : Option (ℕ × ℕ) → List Event → Option (ℕ × ℕ)
last_size known [] = known
last_size known (e ∷ es) = last_size (later (size_in e) known) es

-- the last size that a read tells
abbrev pub size_told : Decoder → List ℕ → Option (ℕ × ℕ)
size_told d bytes = last_size None (told_by d bytes).0
