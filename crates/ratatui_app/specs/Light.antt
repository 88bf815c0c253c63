-- Applications that take no memory.
use Rattle.std.specs.Prelude.{◌≡◌, ℕ, Option, Some, None}
use Rattle.ratatui_core.specs.{Layout.Rect, Buffer.BufferData, Buffer.IsEmptied}
use Rattle.ratatui_core.specs.Backend.{size_of}
use Rattle.ratatui_core.specs.Terminal.{TerminalData, TerminalError}
use Rattle.ratatui_ansi.specs.Backend.{BackendState, shown_by}
use Rattle.ratatui_ansi.specs.{declared.error.AnsiError.AnsiError}
use Rattle.ratatui_acts.specs.Turns.{Turn, ActingRules, HasLightMessages, IsWanted, GivesTurn, after_turn, turn_size}
use Rattle.ratatui_acts.specs.Runs.{Now, Ground, Runs}
use Rattle.ratatui_app.specs.declared.on_glass.OnGlass.{OnGlass}

-- no message takes any, and no painting on an empty buffer
pub record TakesNoMemory {S C R : Type 0} (rules : ActingRules S C R)
    (is_short : S → Rect → BufferData → Type 0) : Type 0 where
  pub light : HasLightMessages rules
  pub short : (s : S) (r : Rect) (blank : BufferData) → IsEmptied r blank → is_short s r blank

-- a size was told that isn't the screen's
abbrev pub TellsOtherSize : {W : Type 0} → Option (ℕ × ℕ) → TerminalData (BackendState W) → Type 0
TellsOtherSize None t = ⊥
TellsOtherSize (Some size) t = size_of (shown_by t.backend) ≡ record { width = size.0; height = size.1 } → ⊥

-- a run stopped at the frame of a turn that told a size that the screen didn't have
pub record StopsAtOtherSize {W S C R H O : Type 0}
    (ground : Ground S C R (OnGlass W) (TerminalError AnsiError) H O)
    (before after : Now S (OnGlass W) H O) : Type 0 where
  pub now : Now S (OnGlass W) H O
  pub runs : Runs ground before now
  pub turn : Turn C R
  pub wanted : IsWanted ground.rules now.standing.state turn
  pub given : GivesTurn ground.gives ground.answers now.ears now.outside turn after.ears after.outside
  pub made : after.standing ≡ after_turn ground.rules now.standing turn
  pub other : TellsOtherSize (turn_size now.standing turn) now.glass.terminal
