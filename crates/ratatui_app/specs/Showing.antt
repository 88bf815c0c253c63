-- What a terminal shows of an application's state.
use Rattle.std.specs.Prelude.{◌≡◌, ◌⊎◌, ℕ, true, Option, Some, None}
use Rattle.rtui_backend.specs.declared.backend.Backend.{Ghosts}
use Rattle.ratatui_core.specs.{Layout.Rect, Layout.Position, Buffer.BufferData}
use Rattle.ratatui_core.specs.Backend.{Screen, HasNoCells, size_of}
use Rattle.ratatui_core.specs.Terminal.{TerminalData, IsAtRest, IsFixed, IsSized, ShowsRendered, HasCursor}

-- a backend and its errors: its screen, how many of its calls failed, and whether all was sent
abbrev pub Device : Type 0 → Type 0 → Type 1
Device = Ghosts

-- at rest over a viewport that goes with the screen's size: it fills the screen, or stands inline
pub record RestsUnfixed {B : Type 0} (screen : B → Screen) (t : TerminalData B) : Type 0 where
  pub rest : IsAtRest screen t.viewport t
  pub free : IsFixed t.viewport → ⊥

module _ {B X : Type 0} (device : Device B X) where
  -- at rest but for the screen, which has taken another size, with any contents
  pub record HasNewSize (t : TerminalData B) : Type 0 where
    pub before : TerminalData B
    pub rest : RestsUnfixed device.screen before
    pub only : t ≡ record before { backend = t.backend }
    pub unknown : IsSized device.screen t → ⊥

  -- a frame can be drawn: the terminal is at rest, or the draw will find another size
  abbrev pub MayDraw : TerminalData B → Type 0
  MayDraw t = RestsUnfixed device.screen t ⊎ HasNewSize t

  -- the screen kept its size
  abbrev pub KeepsSize : TerminalData B → TerminalData B → Type 0
  KeepsSize s t = size_of (device.screen t.backend) ≡ size_of (device.screen s.backend)

  -- the screen has the size that was told, or kept its own: if none was told, or one without cells
  abbrev pub TakesOrKeepsSize : Option (ℕ × ℕ) → TerminalData B → TerminalData B → Type 0
  TakesOrKeepsSize None s t = KeepsSize s t
  TakesOrKeepsSize (Some size) s t =
      (size_of (device.screen t.backend) ≡ record { width = size.0; height = size.1 })
      ⊎ (HasNoCells (record { width = size.0; height = size.1 }) × KeepsSize s t)

  -- the terminal is at rest, the buffer that its screen shows is what painting makes of an empty one, the cursor
  -- stands where it is wanted, or is hidden, and all of it was sent
  pub record ShowsPage (paints : Rect → BufferData → BufferData → Type 0) (cursor : Rect → Option Position)
      (t : TerminalData B) : Type 0 where
    pub rest : RestsUnfixed device.screen t
    pub painted : ShowsRendered device.screen paints t
    pub placed : HasCursor (cursor t.viewport_area) (device.screen t.backend)
    pub flushed : device.is_flushed t.backend ≡ true
