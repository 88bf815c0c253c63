-- A state in its seat, and one turn.
use Rattle.std.specs.Prelude.{◌≡◌, ℕ, List}
use Rattle.std.specs.declared.time.Duration.{Duration}
use Rattle.ratatui_reads.specs.Sources.{read_room}
use Rattle.ratatui_acts.specs.declared.seat.Seat.{Seat}
use Rattle.ratatui_acts.specs.declared.told.Told.{Told}
use Rattle.ratatui_acts.specs.declared.fault.Fault.{Fault}
use Rattle.ratatui_acts.specs.declared.fault.Fault.TheVariants.{Read, Outside, Memory, Show, Endless}
use Rattle.ratatui_acts.specs.Turns.{Turn, Came, Standing, ActingRules, after_turn, IsWanted, GivesTurn}
use Rattle.ratatui_acts.specs.Turns.{RefusesTurn, Tells}

-- a state in its seat, with what was read for it and not told yet
abbrev pub seated : {S : Type 0} → Seat S → Standing S
seated seat = record { decoder = seat.decoder; left = seat.left; state = seat.state }

module _ {S C R H O : Type 0} (rules : ActingRules S C R) (gives : H → ℕ → List ℕ → Duration → H → Type 0)
    (fails : H → H → Type 0) (answers : O → C → R → O → Type 0) where
  -- one turn, the one that the state wanted
  pub record TurnsTo (before : Standing S) (h : H) (o : O) (told : Told) (after : Standing S) (h' : H)
      (o' : O) : Type 0 where
    pub turn : Turn C R
    pub wanted : IsWanted rules before.state turn
    pub given : GivesTurn gives answers h o turn h' o'
    pub made : after ≡ after_turn rules before turn
    pub tells : Tells rules before turn told after

  -- a turn was given, and memory was refused for it
  pub record TurnLacksMemory (before : Standing S) (h : H) (o : O) (after : Standing S) (h' : H) (o' : O)
      : Type 0 where
    pub turn : Turn C R
    pub wanted : IsWanted rules before.state turn
    pub given : GivesTurn gives answers h o turn h' o'
    pub refused : RefusesTurn rules before turn after

  -- where a turn stops: at a read that failed, and nothing was told; where what is outside is lost, and
  -- nothing was told; or at memory that was refused
  abbrev pub StopsTurn : {E : Type 0} → Standing S → H → O → Standing S → H → O → Fault E → Type 0
  StopsTurn before h o after h' o' (Read error) = fails h h' × (after ≡ before) × (o' ≡ o)
  StopsTurn before h o after h' o' (Outside error) = (after ≡ before) × (h' ≡ h)
  StopsTurn before h o after h' o' Memory = TurnLacksMemory before h o after h' o'
  StopsTurn before h o after h' o' (Show error) = ⊥
  StopsTurn before h o after h' o' Endless = ⊥

module _ {S C R H : Type 0} (rules : ActingRules S C R) (gives : H → ℕ → List ℕ → Duration → H → Type 0)
    (fails : H → H → Type 0) where
  -- a read, and what it told
  pub record HearsTo (before : Standing S) (h : H) (told : Told) (after : Standing S) (h' : H) : Type 0 where
    pub bytes : List ℕ
    pub passed : Duration
    pub given : gives h read_room bytes passed h'
    pub made : after ≡ after_turn rules before (Came bytes passed)
    pub tells : Tells rules before (Came bytes passed) told after

  -- where it stops: it failed, and nothing was told; or memory was refused for what it gave
  abbrev pub StopsHearing : {E : Type 0} → Standing S → H → Standing S → H → Fault E → Type 0
  StopsHearing before h after h' (Read error) = fails h h' × (after ≡ before)
  StopsHearing before h after h' (Outside error) = ⊥
  StopsHearing before h after h' Memory =
      (bytes : List ℕ) × (passed : Duration) × gives h read_room bytes passed h'
      × RefusesTurn rules before (Came bytes passed) after
  StopsHearing before h after h' (Show error) = ⊥
  StopsHearing before h after h' Endless = ⊥
