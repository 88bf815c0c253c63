-- Runs of an application on a terminal that is sent bytes.
use Rattle.std.specs.declared.time.Duration.{Duration}
use Rattle.std.specs.Prelude.{◌≡◌, ℕ, Bool, true, List, Option}
use Rattle.ratatui_core.specs.{Layout.Rect, Layout.Position, Buffer.BufferData}
use Rattle.ratatui_core.specs.Terminal.{TerminalData, TerminalError, Viewport}
use Rattle.ratatui_ansi.specs.Backend.{BackendState}
use Rattle.ratatui_ansi.specs.{declared.error.AnsiError.AnsiError}
use Rattle.ratatui_acts.specs.declared.fault.Fault.{Fault}
use Rattle.ratatui_acts.specs.Turns.{ActingRules, Standing}
use Rattle.ratatui_acts.specs.Runs.{Ground, RunsToEnd, StopsTurning}
use Rattle.ratatui_app.specs.declared.on_glass.OnGlass.{OnGlass}
use Rattle.ratatui_app.specs.Glass.{CanShow, StandsOnGlass, MovesAndAsks, StopsOnGlass, Begins, IsGivenBack}

module _ {W S C R H O : Type 0} where
  -- what a run of an application stands on, on such a terminal
  abbrev pub on_glass : ActingRules S C R → (S → Rect → BufferData → BufferData → Type 0)
      → (S → Rect → BufferData → Type 0) → (S → Rect → Option Position)
      → (H → ℕ → List ℕ → Duration → H → Type 0) → (H → H → Type 0) → (O → C → R → O → Type 0)
      → Ground S C R (OnGlass W) (TerminalError AnsiError) H O
  on_glass rules paints is_short cursor gives fails answers = record {
    rules = rules;
    shows = λ glass s. StandsOnGlass (paints s) (cursor s) glass.terminal;
    moves = λ told glass new. MovesAndAsks told glass.terminal new.terminal;
    lacks = λ told s glass new error. StopsOnGlass (paints s) (is_short s) (cursor s) told glass.terminal new.terminal error;
    gives = gives;
    fails = fails;
    answers = answers;
  }

module _ {W S C R H O : Type 0} (ground : Ground S C R (OnGlass W) (TerminalError AnsiError) H O)
    (viewport : Viewport) (backend : BackendState W) where
  -- a run from beginning to end: the terminal was begun on a backend's screen, showed the state at each turn,
  -- and was given back after the last one
  pub record RunsThrough (has_ticks : Bool) (first : Standing S) (h : H) (o : O) (last : Standing S) (h' : H) (o' : O)
      (contents : Option (List ℕ)) : Type 0 where
    pub begun : TerminalData (BackendState W)
    pub begins : Begins viewport backend begun
    pub ended : OnGlass W
    pub runs : RunsToEnd ground has_ticks (record {
      standing = first;
      glass = record { terminal = begun; is_due = true; waited = 0 };
      ears = h;
      outside = o;
    }) (record { standing = last; glass = ended; ears = h'; outside = o' })
    pub given_back : IsGivenBack ended.terminal.backend contents

  -- a run that stopped: each turn before was shown, and the terminal was given back, unless the backend failed
  pub record StopsThrough (fault : Fault (TerminalError AnsiError)) (first : Standing S) (h : H) (o : O)
      (last : Standing S) (h' : H) (o' : O) (contents : Option (List ℕ)) : Type 0 where
    pub begun : TerminalData (BackendState W)
    pub begins : Begins viewport backend begun
    pub ready : CanShow begun
    pub ended : OnGlass W
    pub stops : StopsTurning ground (record {
      standing = first;
      glass = record { terminal = begun; is_due = true; waited = 0 };
      ears = h;
      outside = o;
    }) (record { standing = last; glass = ended; ears = h'; outside = o' }) fault
    pub given_back : ended.terminal.backend.failures ≡ 0 → IsGivenBack ended.terminal.backend contents
