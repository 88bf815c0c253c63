-- A closure's call, and what came before and after, as one draw.
use Rattle.std.proofs.Common.{rules, Option, Result, Ok, Err, sym, subst, inl, inr, MatchResult}
use Rattle.std.specs.declared.alloc.AllocError.{AllocError}
use Rattle.rtui_geometry.specs.declared.position.Position.{Position}
use Rattle.rtui_buffer.specs.{BufferData.BufferData, Shown.IsSettledBuffer}
use Rattle.rtui_backend.specs.Screen.{Screen}
use Rattle.rtui_terminal.specs.{TerminalData.TerminalData, InStep.IsInStep, Writing.Applies, Writing.ApplyErr}
use Rattle.rtui_terminal.specs.{Resizing.Autoresizes, Resizing.AutoresizeErr}
use Rattle.rtui_terminal.specs.{Writing.RefusesArea}
use Rattle.rtui_terminal.specs.Drawing.{DrawOk, PaintedErr, FrameErr, DrawErr, TryDrawErr}
use Rattle.rtui_terminal.proofs.KeepLemmas.{rest_more, autoresized_rest, painted_rest}
use Rattle.rtui_terminal.specs.declared.terminal.error.TerminalError.{TerminalError}
use Rattle.rtui_terminal.specs.declared.terminal.error.TerminalError.TheVariants.{Backend, Memory, Area, Closure}

-- what is painted doesn't matter for what the screen shows
pub in_step_painted : {B : Type 0} (screen : B → Screen) (s : TerminalData B) (painted : BufferData) → IsInStep screen s
    → IsInStep screen (record s { current = painted })
in_step_painted screen s painted at = search rules

module _ {B X : Type 0} (screen : B → Screen) (ran : TerminalData B → Result (Unit {0}) X → Option Position → BufferData → Type 0)
    (s sized t : TerminalData B) (autoresized : Autoresizes screen s sized) (cursor : Option Position) (painted : BufferData)
    (closure : ran sized (Ok tt) cursor painted) where
  drawn_ok : Applies screen cursor (record sized { current = painted }) t → DrawOk screen ran s t
  drawn_ok applied = record {
    draws = record {
      sized = sized;
      autoresized = autoresized;
      cursor = cursor;
      applied = subst (λ sheet. Applies screen cursor (record sized { current = sheet }) t) (sym applied.painted) applied;
      in_step = λ ready settled. applied.in_step (in_step_painted screen sized painted (autoresized.in_step ready))
          (subst IsSettledBuffer applied.painted settled);
      keeps = λ step is_sized settled.
          let after = applied.keeps (in_step_painted screen sized painted (autoresized.in_step (inl step)))
          (subst IsSettledBuffer applied.painted settled) in
          rest_more screen s sized t (autoresized_rest screen s sized autoresized is_sized)
          (painted_rest screen sized t painted after);
    };
    closure = subst (ran sized (Ok tt) cursor) (sym applied.painted) closure;
  }

  painted_err : (after : Option Position → TerminalData B → TerminalData B → Type 0)
      → after cursor (record sized { current = painted }) t → PaintedErr screen ran after s t
  painted_err after left =
      record { sized = sized; autoresized = autoresized; cursor = cursor; painted = painted; closure = closure; left = left }

  -- what an apply answers
  pub draws_on : {T E : Type 0} (result : Result T (TerminalError E))
      → MatchResult result (λ _. Applies screen cursor (record sized { current = painted }) t)
      (ApplyErr screen cursor (record sized { current = painted }) t)
      → MatchResult result (λ _. DrawOk screen ran s t) (FrameErr screen ran s t)
  draws_on (Ok x) applied = drawn_ok applied
  draws_on {E = E} (Err (Backend e)) left =
      inr (painted_err (λ cursor painted t. ApplyErr screen {E = E} cursor painted t (Backend e)) left)
  draws_on (Err Memory) left = absurd left
  draws_on (Err Area) left = painted_err (λ _. RefusesArea) left
  draws_on (Err (Closure e)) left = absurd left

-- a refused autoresize refuses the frame
pub refused_before : {B X E : Type 0} (screen : B → Screen) (ran : TerminalData B → Result (Unit {0}) X → Option Position
    → BufferData → Type 0) (s t : TerminalData B) (error : TerminalError E) → AutoresizeErr screen s t error
    → FrameErr screen ran s t error
refused_before screen ran s t (Backend e) left = inl left
refused_before screen ran s t Memory left = left
refused_before screen ran s t Area left = absurd left
refused_before screen ran s t (Closure e) left = absurd left

-- a refused frame refuses the draw
module _ {B E : Type 0} (screen : B → Screen) (s t : TerminalData B) where
  pub draw_refused : (ran : TerminalData B → Result (Unit {0}) AllocError → Option Position → BufferData → Type 0)
      (error : TerminalError E) → FrameErr screen ran s t error → DrawErr screen ran s t error
  draw_refused ran (Backend e) left = left
  draw_refused ran Memory left = inl left
  draw_refused ran Area left = left
  draw_refused ran (Closure e) left = absurd left

  pub try_refused : (ran : TerminalData B → Result (Unit {0}) E → Option Position → BufferData → Type 0) (error : TerminalError E)
      → FrameErr screen ran s t error → TryDrawErr screen ran s t error
  try_refused ran (Backend e) left = left
  try_refused ran Memory left = left
  try_refused ran Area left = left
  try_refused ran (Closure e) left = absurd left
