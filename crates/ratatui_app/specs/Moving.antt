-- How a turn moves a terminal.
use Rattle.std.specs.Prelude.{◌≡◌, ◌⊎◌, Bool, true, false, Option, ⊤}
use Rattle.ratatui_core.specs.{Layout.Rect, Layout.Position, Buffer.BufferData, Buffer.IsEmptied}
use Rattle.ratatui_core.specs.Terminal.{TerminalData, IsSized, DrawsFrame, Autoresizes}
use Rattle.ratatui_core.specs.Terminal.{TerminalError, DrawErr, RendersCurrent, AutoresizeErr}
use Rattle.ratatui_core.specs.Terminal.{ClearsViewport, FailsClearing, IsBackendFault}
use Rattle.ratatui_core.specs.Headline.{MayTakeSize}
use Rattle.ratatui_acts.specs.declared.told.Told.{Told}
use Rattle.ratatui_app.specs.Showing.{Device, MayDraw, TakesOrKeepsSize}

module _ {B X : Type 0} (device : Device B X) where
  -- right before a frame the screen took another size, or the viewport was emptied, or nothing happened
  abbrev pub Readies : TerminalData B → TerminalData B → Type 0
  Readies s t = MayTakeSize device.screen s t ⊎ ClearsViewport device.screen s t

  -- what the next draw finds on the screen is an empty buffer, or a screen of another size
  abbrev pub IsAnew : TerminalData B → Type 0
  IsAnew t = IsEmptied t.viewport_area t.previous ⊎ (IsSized device.screen t → ⊥)

  -- a frame is drawn once the terminal knows the screen's size
  pub record DrawsSized (s t : TerminalData B) : Type 0 where
    pub sized : TerminalData B
    pub autoresized : Autoresizes device.screen s sized
    pub draws : DrawsFrame device.screen sized t

  -- a terminal was readied for what it was told: the screen has the size that was told, if that has cells; if all
  -- is to be drawn anew, what the draw finds is an empty buffer; and it stayed if there is nothing new
  pub record ReadiesTold (told : Told) (is_new : Bool) (s t : TerminalData B) : Type 0 where
    pub may : MayDraw device t
    pub readied : Readies s t
    pub has : TakesOrKeepsSize device told.size s t
    pub kept : is_new ≡ false → t ≡ s
    pub new : told.anew ≡ true → is_new ≡ true
    pub anew : told.anew ≡ true → IsAnew t
    pub kind : t.viewport ≡ s.viewport
    pub faults : device.failures t.backend ≡ device.failures s.backend

  -- a frame was drawn on a terminal that was readied for it
  pub record SendsFrame (told : Told) (s t : TerminalData B) : Type 0 where
    pub ready : TerminalData B
    pub readied : Readies s ready
    pub anew : told.anew ≡ true → IsAnew ready
    pub drawn : DrawsSized ready t

  -- the terminal stayed, if it isn't to be drawn anew, or a frame was drawn; the screen has the size that was
  -- told, if that has cells; the viewport is of the same kind, and no call failed
  pub record MovesAsTold (told : Told) (s t : TerminalData B) : Type 0 where
    pub drawn : ((t ≡ s) × (told.anew ≡ false)) ⊎ SendsFrame told s t
    pub has : TakesOrKeepsSize device told.size s t
    pub kind : t.viewport ≡ s.viewport
    pub faults : device.failures t.backend ≡ device.failures s.backend

  -- where a turn's frame stops before it is drawn: the backend failed at the size that was told, or at a clear,
  -- and all stays but the backend, and an emptied viewport
  abbrev pub StopsReady : {E : Type 0} → TerminalData B → TerminalData B → TerminalError E → Type 0
  StopsReady s t error = IsBackendFault error
      × ((t ≡ record s { backend = t.backend }) ⊎ FailsClearing device.screen s t)

module _ {B X : Type 0} (device : Device B X) (paints : Rect → BufferData → BufferData → Type 0)
    (is_short : Rect → BufferData → Type 0) (cursor : Rect → Option Position) where
  -- a draw at the known size was refused: nothing was written, or the backend failed
  abbrev pub RefusesSized : {E : Type 0} → TerminalData B → TerminalData B → TerminalError E → Type 0
  RefusesSized t = DrawErr device.screen (RendersCurrent paints (λ _ _ _. ⊤) (λ area. area) is_short
      (cursor t.viewport_area)) t

  -- a frame was refused: the terminal couldn't find the screen's size; or, once it had, the draw was refused
  abbrev pub FailsToDraw : {E : Type 0} → TerminalData B → TerminalData B → TerminalError E → Type 0
  FailsToDraw t t' error = AutoresizeErr device.screen t t' error
      ⊎ ((sized : TerminalData B) × Autoresizes device.screen t sized × RefusesSized sized t' error)

  -- a frame was refused on a terminal that was readied for what was told
  pub record RefusesReady {E : Type 0} (told : Told) (t t' : TerminalData B) (error : TerminalError E)
      : Type 0 where
    pub is_new : Bool
    pub ready : TerminalData B
    pub readied : ReadiesTold device told is_new t ready
    pub fails : FailsToDraw ready t' error

  -- where the frame of a turn stops: before it is drawn, or on a terminal that was readied for it
  abbrev pub StopsShowing : {E : Type 0} → Told → TerminalData B → TerminalData B → TerminalError E → Type 0
  StopsShowing told t t' error = StopsReady device t t' error ⊎ RefusesReady told t t' error
