-- The headline: what any list of calls that answered Ok leaves on the screen.
use Rattle.std.specs.Prelude.{◌≡◌, ◌⊎◌, ◌<◌, true, false, List, [], ◌∷◌, ◌++◌, Option}
use Rattle.rtui_geometry.specs.{declared.position.Position.Position, declared.rect.Rect.Rect}
use Rattle.rtui_buffer.specs.{BufferData.BufferData, BufferData.IsEmptied, Shown.IsSettledBuffer}
use Rattle.rtui_backend.specs.Screen.{Screen, IsOnScreen, screen_area, with_visible, with_cursor}
use Rattle.rtui_viewport.specs.Viewports.{IsFixed, IsInline}
use Rattle.rtui_insert.specs.Insertion.{AppendsRows}
use Rattle.rtui_terminal.specs.{TerminalData.TerminalData, Cursor.Stays, Cursor.MovesCursor}
use Rattle.rtui_terminal.specs.{Clearing.ClearsViewport, Resizing.Resizes, Resizing.Autoresizes}
use Rattle.rtui_terminal.specs.InStep.{IsInStep, IsSized, KeepsAroundViewport, rows_over}
use Rattle.rtui_terminal.specs.{Writing.Applies, Drawing.DrawsFrame, Drawing.RefusesFrame}
use Rattle.rtui_terminal.specs.{Insertion.TakesRows, Insertion.IsLeft, Insertion.Inserts}

-- a call that answered Ok, with what it painted, inserted or was given; Ask is any call that changes nothing,
-- also an insertion that writes nothing; Paint is any write to the current buffer; Refuse is a draw that was
-- refused for what its closure answered or left
pub data Call : Type 0 where
  Draw : BufferData → Call
  Apply : BufferData → Call
  Insert : BufferData → Call
  Clear : Call
  Resize : Rect → Call
  Autoresize : Call
  HideCursor : Call
  ShowCursor : Call
  SetCursor : Position → Call
  Ask : Call
  Paint : Call
  Refuse : Call

-- a call and the state after it
pub record Event (B : Type 0) : Type 0 where
  pub call : Call
  pub after : TerminalData B

-- a relation holds along a list of events that begins in a state
abbrev pub Along : {B : Type 0} → (Call → TerminalData B → TerminalData B → Type 0) → TerminalData B
    → List (Event B) → Type 0
Along R s [] = Unit {0}
Along R s (e ∷ es) = R e.call s e.after × Along R e.after es

-- the last state
abbrev pub last_state : {B : Type 0} → TerminalData B → List (Event B) → TerminalData B
last_state s [] = s
last_state s (e ∷ es) = last_state e.after es

-- the buffers that a call inserted
abbrev pub inserted_by : Call → List BufferData
inserted_by (Insert inserted) = inserted ∷ []
inserted_by other = []

-- all buffers that were inserted, in order
abbrev pub inserted_along : {B : Type 0} → List (Event B) → List BufferData
inserted_along [] = []
inserted_along (e ∷ es) = inserted_by e.call ++ inserted_along es

module _ {B : Type 0} (screen : B → Screen) where
  -- right before a draw the screen may take a size that makes the draw resize, with any contents
  abbrev pub MayTakeSize : TerminalData B → TerminalData B → Type 0
  MayTakeSize s t = (t ≡ s) ⊎ ((t ≡ record s { backend = t.backend }) × (IsSized screen t → ⊥))

  -- the same, and then a step
  pub record AtAnySize (step : TerminalData B → TerminalData B → Type 0) (s t : TerminalData B) : Type 0 where
    pub before : TerminalData B
    pub taken : MayTakeSize s before
    pub then : step before t

  -- what a call does
  abbrev pub Does : Call → TerminalData B → TerminalData B → Type 0
  Does (Draw painted) s t = (t.previous ≡ painted) × AtAnySize (DrawsFrame screen) s t
  Does (Apply painted) s t = (s.current ≡ painted) × ((cursor : Option Position) × Applies screen cursor s t)
  Does (Insert inserted) s t = Inserts screen inserted s t
  Does Clear s t = ClearsViewport screen s t
  Does (Resize area) s t = Resizes screen area s t
  Does Autoresize s t = AtAnySize (Autoresizes screen) s t
  Does HideCursor s t = MovesCursor screen true s.last_known_cursor_pos (with_visible false) s t
  Does ShowCursor s t = MovesCursor screen false s.last_known_cursor_pos (with_visible true) s t
  Does (SetCursor p) s t = MovesCursor screen s.hidden_cursor p (with_cursor p.x p.y) s t
  Does Ask s t = Stays screen s t
  Does Paint s t = t ≡ record s { current = t.current }
  Does Refuse s t = AtAnySize (RefusesFrame screen) s t

  -- what the headline asks of a call: what is painted or inserted is settled, an insertion has its place, and
  -- a resize ends on the screen
  abbrev pub IsFair : Call → TerminalData B → TerminalData B → Type 0
  IsFair (Draw painted) s t = IsSettledBuffer painted
  IsFair (Apply painted) s t = IsSettledBuffer painted
  IsFair (Insert inserted) s t = IsSettledBuffer inserted × TakesRows screen s
  IsFair (Resize area) s t = IsOnScreen t.viewport_area (screen t.backend)
  IsFair other s t = Unit {0}

  -- the screen has the size that was known before the call
  abbrev pub HasKnownSize : TerminalData B → TerminalData B → Type 0
  HasKnownSize s t = screen_area (screen t.backend) ≡ s.last_known_area

  -- the calls that keep the rows above an inline viewport, or append to them
  abbrev pub IsSteady : Call → TerminalData B → TerminalData B → Type 0
  IsSteady (Draw painted) s t = HasKnownSize s t
  IsSteady Clear s t = 0 < s.viewport_area.height
  IsSteady (Resize area) s t = ⊥
  IsSteady Autoresize s t = HasKnownSize s t
  IsSteady Refuse s t = HasKnownSize s t
  IsSteady other s t = Unit {0}

  -- the previous buffer is as before, or, if a viewport that isn't fixed met another size, empty
  abbrev pub IsKeptOrEmptied : TerminalData B → TerminalData B → Type 0
  IsKeptOrEmptied s t = (t.previous ≡ s.previous) ⊎ ((IsFixed s.viewport → ⊥) × (HasKnownSize s t → ⊥)
      × IsEmptied t.viewport_area t.previous)

  -- which buffer the screen shows after a call: the painted one, the one before, or an empty one
  abbrev pub Leaves : Call → TerminalData B → TerminalData B → Type 0
  Leaves (Draw painted) s t = t.previous ≡ painted
  Leaves (Apply painted) s t = t.previous ≡ painted
  Leaves (Insert inserted) s t = IsLeft screen s t
  Leaves Clear s t = IsEmptied t.viewport_area t.previous
  Leaves (Resize area) s t = IsEmptied t.viewport_area t.previous
  Leaves Autoresize s t = IsKeptOrEmptied s t
  Leaves Refuse s t = IsKeptOrEmptied s t
  Leaves other s t = t.previous ≡ s.previous

  abbrev pub IsResize : Call → Type 0
  IsResize call = (area : Rect) × (call ≡ Resize area)

  -- what a call means: the screen shows the buffer that it leaves, exactly its rows came to those above an
  -- inline viewport, and nothing changed outside a fixed one
  pub record IsFaithful (call : Call) (s t : TerminalData B) : Type 0 where
    pub kind : t.viewport ≡ s.viewport
    pub in_step : IsInStep screen t
    pub leaves : Leaves call s t
    pub above : IsInline s.viewport → IsSteady call s t → AppendsRows (inserted_by call) (rows_over screen s)
        (rows_over screen t)
    pub outside : IsFixed s.viewport → (IsResize call → ⊥) → KeepsAroundViewport screen s t

  -- from in step each call is faithful
  abbrev pub IsHeadline : Type 0
  IsHeadline = (s : TerminalData B) (events : List (Event B)) → IsInStep screen s
      → Along Does s events → Along IsFair s events → Along IsFaithful s events

  -- while the size stays, the rows above at the end are those at the start, followed by all that were
  -- inserted
  abbrev pub KeepsRows : Type 0
  KeepsRows = (s : TerminalData B) (events : List (Event B)) → IsInStep screen s → IsInline s.viewport
      → Along Does s events → Along IsFair s events → Along IsSteady s events
      → AppendsRows (inserted_along events) (rows_over screen s) (rows_over screen (last_state s events))
