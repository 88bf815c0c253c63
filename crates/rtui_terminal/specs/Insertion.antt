-- What an insertion above an inline viewport does to a terminal.
use Rattle.std.specs.Prelude.{◌≡◌, ◌⊎◌, ℕ, ◌+◌, ◌-◌, ◌*◌, ◌<◌, ◌≤◌, min, nat_lt, if◌then◌else◌, [], ◌∷◌}
use Rattle.std.specs.Prelude.{Result, Ok, MatchResult}
use Rattle.std.specs.declared.alloc.AllocError.{AllocError}
use Rattle.rtui_geometry.specs.declared.rect.Rect.{Rect}
use Rattle.rtui_buffer.specs.{BufferData.BufferData, BufferData.area_size, Shown.IsSettledBuffer}
use Rattle.rtui_backend.specs.{Screen.Screen, Screen.screen_area, Failures.FailsAfter}
use Rattle.rtui_viewport.specs.{Viewports.IsInline, Areas.IsBlankBelow}
use Rattle.rtui_insert.specs.{Filling.RefusesFilling, Rows.nonempty_cells, Rows.IsNarrowBuffer}
use Rattle.rtui_insert.specs.{Rows.WritesAtMost}
use Rattle.rtui_insert.specs.{Insertion.AppendsRows, Insertion.KeepsSizeAndVisibility, Scrolling.HasLowered}
use Rattle.rtui_insert.specs.{Scrolling.rows_down, Scrolling.IsPushing, Scrolling.IsLowering}
use Rattle.rtui_insert.specs.{Scrolling.IsRaising, Following.Follows}
use Rattle.rtui_terminal.specs.{TerminalData.TerminalData, InStep.IsInStep, InStep.rows_over}
use Rattle.rtui_terminal.specs.{declared.terminal.error.TerminalError.TerminalError}
use Rattle.rtui_terminal.specs.declared.terminal.error.TerminalError.TheVariants.{Backend, Memory, Area}
use Rattle.rtui_terminal.specs.declared.terminal.error.TerminalError.TheVariants.{Closure}

-- the area of a buffer of rows that are to come in above a viewport: as wide as that
abbrev pub inserted_area : {B : Type 0} → TerminalData B → ℕ → Rect
inserted_area s height = record { x = 0; y = 0; width = s.viewport_area.width; height = height }

-- the top of an inline viewport after n rows that came in above it: as far down as there is room
abbrev pub top_behind : {B : Type 0} → ℕ → TerminalData B → ℕ
top_behind n s = s.viewport_area.y + min n
    (s.last_known_area.height - (s.viewport_area.y + s.viewport_area.height))

-- how many cells an insertion of any rows writes at most: those of the rows, and, above a viewport as high as
-- the screen, the screen's first row
abbrev pub cells_at_most : {B : Type 0} → BufferData → TerminalData B → ℕ
cells_at_most inserted s = inserted.area.width * inserted.area.height +
    (if nat_lt s.viewport_area.height s.last_known_area.height then 0 else inserted.area.width)

-- how many cells an insertion of narrow rows writes at most: those that aren't blank, and, above a viewport
-- as high as the screen, the screen's first row twice
abbrev pub cells_to_insert : {B : Type 0} → BufferData → TerminalData B → ℕ
cells_to_insert inserted s = nonempty_cells inserted 0 inserted.area.height +
    (if nat_lt s.viewport_area.height s.last_known_area.height then 0 else 2 * inserted.area.width)

module _ {B : Type 0} (screen : B → Screen) where
  -- rows can be inserted: above an inline viewport with a row, as wide as the screen, which has its last
  -- known size
  pub record TakesRows (s : TerminalData B) : Type 0 where
    pub inline : IsInline s.viewport
    pub known : screen_area (screen s.backend) ≡ s.last_known_area
    pub row : 0 < s.viewport_area.height
    pub width : s.viewport_area.width ≡ (screen s.backend).width

  -- what an insertion leaves of the previous buffer: its cells, moved with the viewport
  abbrev pub IsLeft : TerminalData B → TerminalData B → Type 0
  IsLeft s t = t.previous ≡ record s.previous { area = t.viewport_area }

  -- the rows of a buffer were appended to those above the viewport, which moved down as far as there was room
  -- and goes on showing what it did;
  -- both buffers moved with it
  pub record Inserts (inserted : BufferData) (s t : TerminalData B) : Type 0 where
    pub rest : t ≡ record s {
      backend = t.backend;
      current = t.current;
      previous = t.previous;
      viewport_area = record s.viewport_area { y = t.viewport_area.y };
    }
    pub over : inserted.area ≡ inserted_area s inserted.area.height
    pub top : t.viewport_area.y ≡ top_behind inserted.area.height s
    pub current : Follows s.viewport_area t.viewport_area s.current t.current
    pub previous : Follows s.viewport_area t.viewport_area s.previous t.previous
    pub shape : KeepsSizeAndVisibility (screen s.backend) (screen t.backend)
    pub above : TakesRows s → IsInStep screen s → IsSettledBuffer inserted
        → AppendsRows (inserted ∷ []) (rows_over screen s) (rows_over screen t)
    pub below : TakesRows s → IsInStep screen s → IsSettledBuffer inserted
        → IsBlankBelow s.viewport_area (screen s.backend) → IsBlankBelow t.viewport_area (screen t.backend)
    pub left : TakesRows s → IsInStep screen s → IsLeft s t
    pub moved : TakesRows s → IsInStep screen s → IsSettledBuffer inserted
        → s.viewport_area.height < s.last_known_area.height
        → (a b : ℕ) → a < (screen s.backend).width → b < s.viewport_area.height
        → (screen t.backend).grid a (t.viewport_area.y + b) ≡ (screen s.backend).grid a
        (s.viewport_area.y + b)
    pub kept : TakesRows s → IsInStep screen s → IsSettledBuffer inserted
        → (a b : ℕ) → a < (screen s.backend).width → b < (screen s.backend).height
        → t.viewport_area.y + t.viewport_area.height ≤ b
        → (screen t.backend).grid a b ≡ (screen s.backend).grid a b
    pub in_step : TakesRows s → IsInStep screen s → IsSettledBuffer inserted → IsInStep screen t
    pub few : TakesRows s → IsInStep screen s → IsSettledBuffer inserted → IsNarrowBuffer inserted
        → WritesAtMost (cells_to_insert inserted s) (screen s.backend) (screen t.backend)
    pub most : TakesRows s → IsInStep screen s → IsSettledBuffer inserted
        → WritesAtMost (cells_at_most inserted s) (screen s.backend) (screen t.backend)

  -- `filled` tells of the closure what it answered, and the buffer that it left
  module _ (area : Rect) (filled : Result (Unit {0}) AllocError → BufferData → Type 0) where
    -- the closure filled a buffer, whose rows were inserted; if there are none, or the screen was known to
    -- have none, nothing changed
    pub record InsertOk (s t : TerminalData B) : Type 0 where
      pub inserted : BufferData
      pub closure : filled (Ok tt) inserted
      pub over : inserted.area ≡ area
      pub none : (s.last_known_area.height ≡ 0) ⊎ (area.height ≡ 0) → t ≡ s
      pub inserts : 0 < s.last_known_area.height → Inserts inserted s t

    -- the closure left a buffer of another area, and nothing changed
    pub record RefusesRows (s t : TerminalData B) : Type 0 where
      pub inserted : BufferData
      pub closure : filled (Ok tt) inserted
      pub over : inserted.area ≡ area → ⊥
      pub rest : t ≡ s

  -- what an insertion does to the screen while the viewport stays: above one that covers the screen the
  -- buffer's rows are pushed off from the first row, and else they come in at its top
  pub record IsBeginning (inserted : BufferData) (s : TerminalData B) (new : Screen) : Type 0 where
    pub pushing : s.last_known_area.height ≤ s.viewport_area.height
        → IsPushing inserted (screen s.backend) new
    pub lowering : s.viewport_area.height < s.last_known_area.height
        → IsLowering inserted (rows_down inserted.area.height s.viewport_area s.last_known_area.height)
        s.viewport_area (screen s.backend) new

  -- `stops_at` tells of a failed call what the backend was before it, and after it
  module _ (stops_at : B → B → Type 0) where
    -- a call failed before the viewport moved
    pub record StopsInPlace (inserted : BufferData) (s t : TerminalData B) : Type 0 where
      pub top : t.viewport_area.y ≡ s.viewport_area.y
      pub stopped : FailsAfter stops_at (λ b. TakesRows s → IsInStep screen s → IsSettledBuffer inserted
          → IsBeginning inserted s (screen b)) t.backend

    -- the viewport moved down, and its rows on the screen with it, after the first rows of a buffer had come
    -- in above it; then a call failed while the other ones came in
    pub record HasMovedDown (inserted : BufferData) (s t : TerminalData B) : Type 0 where
      pub top : t.viewport_area.y ≡ top_behind inserted.area.height s
      pub between : B
      pub lowered : TakesRows s → IsInStep screen s → IsSettledBuffer inserted
          → HasLowered inserted (rows_down inserted.area.height s.viewport_area s.last_known_area.height)
          s.viewport_area (screen s.backend) (screen between)
      pub stopped : FailsAfter stops_at (λ b. TakesRows s → IsInStep screen s → IsSettledBuffer inserted
          → IsRaising inserted (rows_down inserted.area.height s.viewport_area s.last_known_area.height)
          t.viewport_area.y (screen between) (screen b)) t.backend

    -- a backend failed in the insertion of a buffer's rows, before the viewport moved or after it; a buffer
    -- of its area moved with it
    pub record StopsInserting (inserted : BufferData) (s t : TerminalData B) : Type 0 where
      pub rest : t ≡ record s {
        backend = t.backend;
        current = t.current;
        previous = t.previous;
        viewport_area = record s.viewport_area { y = t.viewport_area.y };
      }
      pub moved : StopsInPlace inserted s t ⊎ HasMovedDown inserted s t
      pub current : Follows s.viewport_area t.viewport_area s.current t.current
      pub previous : Follows s.viewport_area t.viewport_area s.previous t.previous

    -- by the answer
    module _ (area : Rect) (filled : Result (Unit {0}) AllocError → BufferData → Type 0) where
      -- the closure filled a buffer, and then the backend failed
      pub record FailsInserting (s t : TerminalData B) : Type 0 where
        pub inserted : BufferData
        pub closure : filled (Ok tt) inserted
        pub over : inserted.area ≡ area
        pub known : 0 < s.last_known_area.height
        pub stops : StopsInserting inserted s t

      -- memory was refused for a buffer that has cells, or by the closure, and nothing changed
      abbrev pub InsertErr : {E : Type 0} → TerminalData B → TerminalData B → TerminalError E → Type 0
      InsertErr s t (Backend error) = FailsInserting s t
      InsertErr s t Memory = (t ≡ s) × ((area_size area ≡ 0 → ⊥) ⊎ RefusesFilling filled)
      InsertErr s t Area = RefusesRows area filled s t
      InsertErr s t (Closure error) = ⊥

      -- an insertion by its answer
      abbrev pub InsertsBy : {T E : Type 0} → TerminalData B → TerminalData B → Result T (TerminalError E)
          → Type 0
      InsertsBy s t result = MatchResult result (λ _. InsertOk area filled s t) (InsertErr s t)
