-- What the calls do that ask a backend, or change its cursor.
use Rattle.std.specs.Prelude.{◌≡◌, Bool}
use Rattle.rtui_geometry.specs.declared.position.Position.{Position}
use Rattle.rtui_backend.specs.Screen.{Screen}
use Rattle.rtui_terminal.specs.{TerminalData.TerminalData, InStep.IsInStep}

module _ {B : Type 0} (screen : B → Screen) where
  -- the backend was asked, and nothing changed
  pub record Stays (s t : TerminalData B) : Type 0 where
    pub rest : t ≡ record s { backend = t.backend }
    pub screen_stays : screen t.backend ≡ screen s.backend

  -- the cursor changed, and with it what the terminal knows of it
  pub record MovesCursor (hidden : Bool) (known : Position) (cursor : Screen → Screen)
      (s t : TerminalData B) : Type 0 where
    pub rest : t ≡ record s { backend = t.backend; last_known_cursor_pos = known; hidden_cursor = hidden }
    pub screen_cursor : screen t.backend ≡ cursor (screen s.backend)
    pub in_step : IsInStep screen s → IsInStep screen t
