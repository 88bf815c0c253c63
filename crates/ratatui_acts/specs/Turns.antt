-- What turns make of a state: a turn is a read, or something that was done.
use Rattle.std.specs.Prelude.{◌≡◌, ◌<◌, ◌||◌, ◌⊎◌, ℕ, Bool, true, false, is_some, if◌then◌else◌}
use Rattle.std.specs.Prelude.{List, [], ◌∷◌, ◌++◌, length, Option, Some, None}
use Rattle.std.specs.declared.time.Duration.{Duration}
use Rattle.ratatui_events.specs.declared.event.Event.{Event}
use Rattle.ratatui_input.specs.declared.decoder.Decoder.{Decoder}
use Rattle.ratatui_input.specs.Decoding as decoding
use Rattle.ratatui_reads.specs.{Reads.told_by, Reads.size_told, Sources.read_room}
use Rattle.ratatui_acts.specs.declared.message.Message.{Message}
use Rattle.ratatui_acts.specs.declared.message.Message.TheVariants as message
use Rattle.ratatui_acts.specs.declared.told.Told.{Told}
use Rattle.ratatui_acts.specs.declared.acts.Acts.{Ghosts}
use Rattle.ratatui_acts.specs.Redraws.{has_redraw}

-- what happened between two looks at the glass: a read gave bytes, none if nothing came, and so much time had
-- gone since the last one that gave none; or a command was done, and this was its answer
pub data Turn (C R : Type 0) : Type 0 where
  Came : List ℕ → Duration → Turn C R
  Done : C → R → Turn C R

-- a state, the decoder, and the events that were read and that the state has not been told yet
pub record Standing (S : Type 0) : Type 0 where
  pub decoder : Decoder
  pub left : List Event
  pub state : S

-- so many events have room beside a state
abbrev pub events_room : ℕ
events_room = 2048

-- a turn is a read
abbrev pub IsRead : {C R : Type 0} → Turn C R → Type 0
IsRead (Came bytes passed) = Unit {0}
IsRead (Done command answer) = ⊥

-- what messages make of a state, what a state asks for, and which states take no more messages
abbrev pub ActingRules : Type 0 → Type 0 → Type 0 → Type 1
ActingRules = Ghosts

module _ {S C R : Type 0} (rules : ActingRules S C R) where
  -- a state is told no event: it is over, or asks for something
  abbrev pub waits : S → Bool
  waits s = rules.is_over s || is_some (rules.asked s)

  -- events are told, one after the other, until the state waits
  abbrev pub taking : Decoder → List Event → S → Standing S
  taking d [] s = record { decoder = d; left = []; state = s }
  taking d (e ∷ es) s =
      if waits s then record { decoder = d; left = e ∷ es; state = s }
      else taking d es (rules.updated s (message.Event e))

  -- a read that gives nothing is a tick
  abbrev pub ticked : List ℕ → Duration → S → S
  ticked [] passed s = rules.updated s (message.Tick passed)
  ticked (b ∷ bytes) passed s = s

  abbrev pub after_messages : decoding.Told → List ℕ → Duration → Standing S → Standing S
  after_messages told bytes passed b = taking told.1 (b.left ++ told.0) (ticked bytes passed b.state)

  -- what a turn makes of all
  abbrev pub after_turn : Standing S → Turn C R → Standing S
  after_turn b (Came bytes passed) = after_messages (told_by b.decoder bytes) bytes passed b
  after_turn b (Done command answer) = taking b.decoder b.left (rules.updated b.state (message.Answer answer))

  abbrev pub after_turns : Standing S → List (Turn C R) → Standing S
  after_turns b [] = b
  after_turns b (t ∷ ts) = after_turns (after_turn b t) ts

  -- a turn is the one that the state wants: what it asks for is done, and if it asks for nothing, it is read
  abbrev pub IsWanted : S → Turn C R → Type 0
  IsWanted s (Came bytes passed) = rules.asked s ≡ None
  IsWanted s (Done command answer) = rules.asked s ≡ Some command

  -- the events that wait at a turn to be told, and the state that they are told to
  abbrev pub queued : Standing S → Turn C R → List Event
  queued b (Came bytes passed) = b.left ++ (told_by b.decoder bytes).0
  queued b (Done command answer) = b.left

  abbrev pub state_begun : Standing S → Turn C R → S
  state_begun b (Came bytes passed) = ticked bytes passed b.state
  state_begun b (Done command answer) = rules.updated b.state (message.Answer answer)

  -- a state that is told all of these events
  abbrev pub all_told : S → List Event → S
  all_told s [] = s
  all_told s (e ∷ es) = all_told (rules.updated s (message.Event e)) es

  -- some first ones of these events are told, and not the next one, which isn't light, and for which memory was
  -- refused: this one and those after it wait
  pub record TellsSome (events : List Event) (before : S) (left : List Event) (after : S) : Type 0 where
    pub told : List Event
    pub next : Event
    pub rest : List Event
    pub events_are : events ≡ told ++ next ∷ rest
    pub after_is : after ≡ all_told before told
    pub left_is : left ≡ next ∷ rest
    pub heavy : rules.is_light after (message.Event next) → ⊥

  -- a read gave nothing, and the tick isn't light
  abbrev pub IsTickHeavy : S → List ℕ → Duration → Type 0
  IsTickHeavy s [] passed = rules.is_light s (message.Tick passed) → ⊥
  IsTickHeavy s (b ∷ bytes) passed = ⊥

  -- the first message of a turn, beside its events, is a tick or an answer, and isn't light
  abbrev pub IsHeavy : S → Turn C R → Type 0
  IsHeavy s (Came bytes passed) = IsTickHeavy s bytes passed
  IsHeavy s (Done command answer) = rules.is_light s (message.Answer answer) → ⊥

  -- memory was refused for that message: the state is as before, and the events wait
  pub record RefusesFirst (before : Standing S) (turn : Turn C R) (after : Standing S) : Type 0 where
    pub heavy : IsHeavy before.state turn
    pub state_is : after.state ≡ before.state
    pub left_is : after.left ≡ queued before turn

  -- so many events were left that those of a read have no room beside them: the state is as before, and none
  -- is left
  pub record LacksPlaces (before : Standing S) (turn : Turn C R) (after : Standing S) : Type 0 where
    pub read : IsRead turn
    pub some : before.left ≡ [] → ⊥
    pub many : events_room < length (queued before turn)
    pub state_is : after.state ≡ before.state
    pub left_is : after.left ≡ []

  -- memory was refused in a turn: for the tick, the answer or one of the events; or there was no room for the
  -- events of a read
  abbrev pub RefusesTurn : Standing S → Turn C R → Standing S → Type 0
  RefusesTurn before turn after = RefusesFirst before turn after
      ⊎ TellsSome (queued before turn) (state_begun before turn) after.left after.state
      ⊎ LacksPlaces before turn after

  -- each message is light, in each state
  abbrev pub HasLightMessages : Type 0
  HasLightMessages = (s : S) (m : Message R) → rules.is_light s m

-- the last size that a turn tells
abbrev pub turn_size : {S C R : Type 0} → Standing S → Turn C R → Option (ℕ × ℕ)
turn_size b (Came bytes passed) = size_told b.decoder bytes
turn_size b (Done command answer) = None

-- the turn was a read that gave nothing
abbrev pub WasNothing : {C R : Type 0} → Turn C R → Type 0
WasNothing (Came bytes passed) = bytes ≡ []
WasNothing (Done command answer) = ⊥

-- what is told of a turn to the glass: the last size; whether something came; whether one of the events that
-- were told was Ctrl+L; and if nothing that is shown has changed, the state is as before
pub record Tells {S C R : Type 0} (rules : ActingRules S C R) (before : Standing S) (turn : Turn C R) (told : Told)
    (after : Standing S) : Type 0 where
  pub size : told.size ≡ turn_size before turn
  pub nothing : told.came ≡ false → WasNothing turn
  pub something : told.came ≡ true → WasNothing turn → ⊥
  pub events : List Event
  pub events_are : queued rules before turn ≡ events ++ after.left
  pub anew : told.anew ≡ has_redraw events
  pub same : told.changed ≡ false → after.state ≡ before.state

-- a frame of which nothing was told but that all may have changed
abbrev pub first_told : Told
first_told = record { changed = true; came = true; size = None; anew = false }

-- there is no reason to draw again
pub record IsQuiet (told : Told) : Type 0 where
  pub came : told.came ≡ true
  pub same : told.changed ≡ false
  pub size : told.size ≡ None
  pub kept : told.anew ≡ false

module _ {C R H O : Type 0} (gives : H → ℕ → List ℕ → Duration → H → Type 0) (answers : O → C → R → O → Type 0) where
  -- what is outside made a turn: what gives reads gave these bytes and this time, or what does commands did this one, with
  -- this answer; the other one stayed
  abbrev pub GivesTurn : H → O → Turn C R → H → O → Type 0
  GivesTurn h o (Came bytes passed) h' o' = gives h read_room bytes passed h' × (o' ≡ o)
  GivesTurn h o (Done command answer) h' o' = answers o command answer o' × (h' ≡ h)
