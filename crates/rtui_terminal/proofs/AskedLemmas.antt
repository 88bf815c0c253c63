-- A resize after the backend was asked for its size, which leaves the screen as it is.
use Rattle.std.proofs.Common.{rules, ◌≡◌, Result, Ok, Err, MatchResult, refl, inl, inr}
use Rattle.rtui_geometry.specs.declared.rect.Rect.{Rect}
use Rattle.rtui_backend.specs.Screen.{Screen, screen_area}
use Rattle.rtui_terminal.specs.{TerminalData.TerminalData, InStep.IsSized, declared.terminal.error.TerminalError.TerminalError}
use Rattle.rtui_terminal.specs.declared.terminal.error.TerminalError.TheVariants.{Area, Backend, Closure, Memory}
use Rattle.rtui_terminal.specs.Resizing.{Resizes, Autoresizes, AutoresizeErr, FailsResizing, ResizeErr}

module _ {B : Type 0} (screen : B → Screen) (s : TerminalData B) (asked : B) (same : screen asked ≡ screen s.backend) where
  resizes-asked : (area : Rect) (t : TerminalData B) → Resizes screen area (record s { backend = asked }) t
      → Resizes screen area s t
  resizes-asked area t is = search rules

  fails-asked : (area : Rect) (t : TerminalData B) → FailsResizing screen area (record s { backend = asked }) t
      → FailsResizing screen area s t
  fails-asked area t is = search rules

  -- an autoresize by the answer of its resize
  pub autoresized-by : {T E : Type 0} (area : Rect) (t : TerminalData B) (result : Result T (TerminalError E))
      → (IsSized screen s → ⊥)
      → area ≡ screen_area (screen s.backend)
      → MatchResult result (λ _. Resizes screen area (record s { backend = asked }) t)
      (ResizeErr screen area (record s { backend = asked }) t)
      → MatchResult result (λ _. Autoresizes screen s t) (AutoresizeErr screen s t)
  autoresized-by area t (Ok x) unsized is by =
      let resizes : Resizes screen (screen_area (screen s.backend)) s t = rw is at (resizes-asked area t by) in
      record {
        case = inr (unsized, resizes);
        fixed = λ fixed. absurd (unsized (inl fixed));
        in_step = λ _. resizes.in_step (resizes.on_screen refl);
      }
  autoresized-by area t (Err (Backend error)) unsized is by = ((λ fixed. unsized (inl fixed)), rw is at (fails-asked area t by))
  autoresized-by area t (Err Memory) unsized is by = search rules
  autoresized-by area t (Err Area) unsized is by = absurd by
  autoresized-by area t (Err (Closure error)) unsized is by = absurd by
