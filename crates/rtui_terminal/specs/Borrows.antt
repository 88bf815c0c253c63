-- What is lent of a frame, and of a terminal.
use Rattle.std.specs.Prelude.{[], Result, IfErr}
use mir.Syntax.{named}
use Rattle.std.specs.Borrow.{Lends, follows, RestsIfErr, RattleType, MutBor, GName, Fml}
use Rattle.std.specs.declared.fmt.Debug as debug
use Rattle.std.specs.declared.fmt.Display as display
use Rattle.rtui_buffer.specs.BufferData.{BufferData}
use Rattle.rtui_buffer.specs.contracts.buffer.Buffer as buffer
use Rattle.rtui_backend.specs.declared.backend.Backend.{Ghosts}
use Rattle.rtui_terminal.specs.{declared.terminal.frame.Frame.Frame, contracts.terminal.frame.Frame.the_row}
use Rattle.rtui_terminal.specs.{TerminalData.TerminalData, Faults.Faults}
use Rattle.rtui_terminal.specs.declared.terminal.error.TerminalError.{TerminalError}
use Rattle.rtui_terminal.specs.contracts.terminal.Terminal as terminal

-- the frame whose reference is to another buffer
abbrev pub with_buffer : Frame → BufferData → Frame
with_buffer frame sheet = record frame { buffer = record frame.buffer { now = sheet } }

-- the frame's own buffer ends with the last value of the lent one
abbrev pub LendsBuffer : MutBor Frame → MutBor BufferData → Fml
LendsBuffer frame lent = Lends (the_row (record { mir = named 0; lft = [] })) buffer.the_row frame lent
    (with_buffer frame.now)

-- of a terminal `t` over a backend B with errors E
module _ (B E : RattleType) (b : Ghosts B.Denot E.Denot) (d : debug.Ghosts E.Denot)
    (p : display.Ghosts E.Denot) (t : MutBor (TerminalData B.Denot)) where
  -- its backend ends with the last value of the lent one, and the rest stays
  abbrev pub LendsBackend : MutBor B.Denot → Fml
  LendsBackend lent = Lends (terminal.the_row B E b d p) B t lent (λ end. record t.now { backend = end })

  -- its current buffer ends with the last value of the lent one, and the rest stays
  abbrev pub LendsCurrent : GName → Fml
  LendsCurrent lent = follows (terminal.the_row B E b d p) buffer.the_row t.ghost_name lent
      (λ sheet. record t.now { current = sheet })

  -- an Ok result holds it; a refusal leaves it as is told of the error, and a backend's fault is counted
  abbrev pub RestsIfRefused : {A : Type 0} → (A → MutBor (TerminalData B.Denot))
      → Result A (TerminalError E.Denot) → (TerminalData B.Denot → TerminalError E.Denot → Type 0) → Fml
  RestsIfRefused held result refused =
      RestsIfErr (terminal.the_row B E b d p) t (λ a. (held a).ghost_name) result
      (λ left. IfErr result (refused left)
      × Faults result (b.failures t.now.backend) (b.failures left.backend))
