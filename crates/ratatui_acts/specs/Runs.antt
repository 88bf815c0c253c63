-- Runs: what was heard and done, turn by turn, and what the glass showed then.
use Rattle.std.specs.Prelude.{◌≡◌, ◌⊎◌, ℕ, Bool, true, false, List, [], ◌∷◌, ◌++◌, None}
use Rattle.std.specs.declared.time.Duration.{Duration}
use Rattle.ratatui_acts.specs.declared.fault.Fault.{Fault}
use Rattle.ratatui_acts.specs.declared.fault.Fault.TheVariants.{Read, Outside, Memory, Show, Endless}
use Rattle.ratatui_acts.specs.declared.told.Told.{Told}
use Rattle.ratatui_acts.specs.Turns.{Turn, Came, Done, Standing, ActingRules, after_turn, after_turns, IsWanted, GivesTurn}
use Rattle.ratatui_reads.specs.Reads.{IsNonEmpty}
use Rattle.ratatui_acts.specs.Turns.{RefusesTurn, Tells, IsQuiet, first_told}

-- where all stands between two turns: the state in its seat, what shows it, what gives reads, and what does
-- what is asked for
pub record Now (S G H O : Type 0) : Type 0 where
  pub standing : Standing S
  pub glass : G
  pub ears : H
  pub outside : O

-- a turn that was made, and where all stood right before it
pub record Past (S C R G H O : Type 0) : Type 0 where
  pub before : Now S G H O
  pub turn : Turn C R

-- what a run stands on: the state's rules; what shows it, how that moves on, and where it stops; what gives
-- reads, and how that fails; and what does commands
pub record Ground (S C R G E H O : Type 0) : Type 1 where
  pub rules : ActingRules S C R
  pub shows : G → S → Type 0
  pub moves : Told → G → G → Type 0
  pub lacks : Told → S → G → G → E → Type 0
  pub gives : H → ℕ → List ℕ → Duration → H → Type 0
  pub fails : H → H → Type 0
  pub answers : O → C → R → O → Type 0

-- the parts of it, one by one
abbrev pub ground_of : {S C R G E H O : Type 0} → ActingRules S C R → (G → S → Type 0) → (Told → G → G → Type 0)
    → (Told → S → G → G → E → Type 0) → (H → ℕ → List ℕ → Duration → H → Type 0) → (H → H → Type 0)
    → (O → C → R → O → Type 0) → Ground S C R G E H O
ground_of rules shows moves lacks gives fails answers = record {
  rules = rules;
  shows = shows;
  moves = moves;
  lacks = lacks;
  gives = gives;
  fails = fails;
  answers = answers;
}

-- a turn was a read that gave nothing, or, if it was no read, this is so
abbrev pub GaveNothing : {C R : Type 0} → Turn C R → Type 0 → Type 0
GaveNothing (Came bytes passed) earlier = bytes ≡ []
GaveNothing (Done command answer) earlier = earlier

abbrev pub GaveSomething : {C R : Type 0} → Turn C R → Type 0
GaveSomething (Came bytes passed) = IsNonEmpty bytes
GaveSomething (Done command answer) = Unit {0}

-- at a read one thing is so, and else another
abbrev pub BeforeRead : {C R : Type 0} → Turn C R → Type 0 → Type 0 → Type 0
BeforeRead (Came bytes passed) here other = here
BeforeRead (Done command answer) here other = other

module _ {S C R G E H O : Type 0} (ground : Ground S C R G E H O) where
  -- the glass shows the state
  abbrev pub IsShown : Now S G H O → Type 0
  IsShown now = ground.shows now.glass now.standing.state

  -- one turn: the glass showed the state, which goes on, and which asked for what was done, or for nothing
  -- where it was read; what came of it stands there now; and the glass moved on as it was told of that, or
  -- stayed if it was told nothing
  pub record IsTurn (before : Now S G H O) (turn : Turn C R) (after : Now S G H O) : Type 0 where
    pub shown : IsShown before
    pub goes_on : ground.rules.is_over before.standing.state ≡ false
    pub wanted : IsWanted ground.rules before.standing.state turn
    pub given : GivesTurn ground.gives ground.answers before.ears before.outside turn after.ears after.outside
    pub made : after.standing ≡ after_turn ground.rules before.standing turn
    pub told : Told
    pub tells : Tells ground.rules before.standing turn told after.standing
    pub moved : ground.moves told before.glass after.glass
    pub stayed : IsQuiet told → after.glass ≡ before.glass

  -- all that was heard and done from where a run began, the last turn first
  abbrev pub HasRun : Now S G H O → List (Past S C R G H O) → Now S G H O → Type 0
  HasRun begun [] now = now ≡ begun
  HasRun begun (p ∷ earlier) now = HasRun begun earlier p.before × IsTurn p.before p.turn now

  -- the turns of a run, in order
  abbrev pub turns_of : List (Past S C R G H O) → List (Turn C R)
  turns_of [] = []
  turns_of (p ∷ earlier) = turns_of earlier ++ (p.turn ∷ [])

  -- at a read nothing was left that had been read before and not been told
  abbrev pub IsAnswered : Standing S → Turn C R → Type 0
  IsAnswered before (Came bytes passed) = before.left ≡ []
  IsAnswered before (Done command answer) = Unit {0}

  abbrev pub AreAnswered : List (Past S C R G H O) → Type 0
  AreAnswered [] = Unit {0}
  AreAnswered (p ∷ earlier) = IsAnswered p.before.standing p.turn × AreAnswered earlier

  -- a run from where all stood before: its first frame, and each turn up to now, where the glass shows the
  -- state
  pub record Runs (before now : Now S G H O) : Type 0 where
    pub glass : G
    pub began : ground.moves first_told before.glass glass
    pub past : List (Past S C R G H O)
    pub has_run : HasRun (record before { glass = glass }) past now
    pub shown : IsShown now

  -- the last read of these turns gave nothing
  abbrev pub LastGaveNothing : List (Past S C R G H O) → Type 0
  LastGaveNothing [] = ⊥
  LastGaveNothing (p ∷ earlier) = GaveNothing p.turn (LastGaveNothing earlier)

  -- none of these turns was a read that gave nothing
  abbrev pub AreSome : List (Past S C R G H O) → Type 0
  AreSome [] = Unit {0}
  AreSome (p ∷ earlier) = GaveSomething p.turn × AreSome earlier

  -- none but the last read gave nothing
  abbrev pub OnlyLastGaveNothing : List (Past S C R G H O) → Type 0
  OnlyLastGaveNothing [] = Unit {0}
  OnlyLastGaveNothing (p ∷ earlier) = BeforeRead p.turn (AreSome earlier) (OnlyLastGaveNothing earlier)

  -- a turn was made while the glass showed the state that all turns before it make of the first one; what was
  -- done was what that state asks for, and where it was read, that state asks for nothing
  pub record IsTimely (begun : Standing S) (earlier : List (Past S C R G H O)) (p : Past S C R G H O) : Type 0 where
    pub shown : ground.shows p.before.glass (after_turns ground.rules begun (turns_of earlier)).state
    pub wanted : IsWanted ground.rules (after_turns ground.rules begun (turns_of earlier)).state p.turn

  abbrev pub AreTimely : Standing S → List (Past S C R G H O) → Type 0
  AreTimely begun [] = Unit {0}
  AreTimely begun (p ∷ earlier) = IsTimely begun earlier p × AreTimely begun earlier

  -- why a run ended well: the state is over; or it asks for nothing, and the last read gave nothing where that
  -- is no tick
  abbrev pub EndsWell : Bool → Now S G H O → List (Past S C R G H O) → Type 0
  EndsWell has_ticks now past = (ground.rules.is_over now.standing.state ≡ true) ⊎ ((has_ticks ≡ false)
      × (ground.rules.asked now.standing.state ≡ None) × LastGaveNothing past)

  -- a run that ended well: without ticks only its last read can have given nothing
  pub record RunsToEnd (has_ticks : Bool) (before now : Now S G H O) : Type 0 where
    pub runs : Runs before now
    pub ended : EndsWell has_ticks now runs.past
    pub typed : has_ticks ≡ false → OnlyLastGaveNothing runs.past

  -- a turn was made, and its frame failed
  pub record FailsToShow (before after : Now S G H O) (error : E) : Type 0 where
    pub turn : Turn C R
    pub wanted : IsWanted ground.rules before.standing.state turn
    pub given : GivesTurn ground.gives ground.answers before.ears before.outside turn after.ears after.outside
    pub made : after.standing ≡ after_turn ground.rules before.standing turn
    pub told : Told
    pub tells : Tells ground.rules before.standing turn told after.standing
    pub lacks : ground.lacks told after.standing.state before.glass after.glass error

  -- a turn was given to a state that goes on, and memory was refused for it; the glass stays
  pub record LacksMemory (before after : Now S G H O) : Type 0 where
    pub turn : Turn C R
    pub goes_on : ground.rules.is_over before.standing.state ≡ false
    pub wanted : IsWanted ground.rules before.standing.state turn
    pub given : GivesTurn ground.gives ground.answers before.ears before.outside turn after.ears after.outside
    pub refused : RefusesTurn ground.rules before.standing turn after.standing
    pub glass : after.glass ≡ before.glass

  -- where the next turn stops: at a read that failed; where what is outside is lost; at memory that was refused
  -- for what was told; or at the frame after the turn
  abbrev pub StopsNext : Now S G H O → Now S G H O → Fault E → Type 0
  StopsNext now after (Read error) = ground.fails now.ears after.ears × (after ≡ record now { ears = after.ears })
  StopsNext now after (Outside error) = after ≡ record now { outside = after.outside }
  StopsNext now after Memory = LacksMemory now after
  StopsNext now after (Show error) = FailsToShow now after error
  StopsNext now after Endless = after ≡ now

  -- the first frame failed, before anything was read or done
  abbrev pub StopsFirst : Now S G H O → Now S G H O → Fault E → Type 0
  StopsFirst before after (Show error) = (after ≡ record before { glass = after.glass })
      × ground.lacks first_told before.standing.state before.glass after.glass error
  StopsFirst before after (Read error) = ⊥
  StopsFirst before after (Outside error) = ⊥
  StopsFirst before after Memory = ⊥
  StopsFirst before after Endless = ⊥

  -- a run up to some turn, at which the next one stopped
  pub record StopsAtTurn (before after : Now S G H O) (fault : Fault E) : Type 0 where
    pub now : Now S G H O
    pub runs : Runs before now
    pub stops : StopsNext now after fault

  -- where a run stops: each turn that it made was shown, all the same
  abbrev pub StopsTurning : Now S G H O → Now S G H O → Fault E → Type 0
  StopsTurning before after fault = StopsFirst before after fault ⊎ StopsAtTurn before after fault
