-- A draw whose closure only renders over an empty buffer.
use Rattle.std.proofs.Common.{rules, ◌≡◌, ℕ, zero, suc, ◌-◌, ◌++◌, ◌∷◌, length, take, refl, sym, ap, subst, ◌∙◌, arith, Result}
use Rattle.std.proofs.Common.{Ok, Err, Option, inl, inr, alloc_error}
use Rattle.std.specs.declared.alloc.AllocError.{AllocError}
use Rattle.rtui_geometry.specs.{declared.position.Position.Position, declared.rect.Rect.Rect}
use Rattle.rtui_cell.specs.Cell.{empty_cell}
use Rattle.rtui_buffer.specs.BufferData.{BufferData, IsEmptied, empty_cells, area_size}
use Rattle.rtui_backend.specs.Screen.{Screen}
use Rattle.rtui_terminal.specs.{TerminalData.HasAreas, TerminalData.TerminalData, InStep.IsReady, InStep.IsSized}
use Rattle.rtui_terminal.specs.{Faults.IsBackendFault}
use Rattle.rtui_terminal.specs.{declared.terminal.error.TerminalError.TerminalError, Resizing.Autoresizes}
use Rattle.rtui_terminal.specs.{Resizing.IsResized, Cursor.Stays}
use Rattle.rtui_terminal.specs.declared.terminal.error.TerminalError.TheVariants.{Backend, Memory, Area, Closure}
use Rattle.rtui_terminal.specs.{Drawing.DrawOk, Drawing.DrawErr, Drawing.PaintedErr, Rendered.ShowsRendered}

-- whatever a closure painted over a current buffer, it is what this rendering over the viewport makes of that buffer
abbrev pub OnlyRenders : {B X : Type 0} → (TerminalData B → Result (Unit {0}) X → Option Position → BufferData → Type 0)
    → (Rect → BufferData → BufferData → Type 0) → Type 0
OnlyRenders {B} ran renders = (s : TerminalData B) (cursor : Option Position) (painted : BufferData)
    → ran s (Ok tt) cursor painted → renders s.viewport_area s.current painted

cut-empty : (m n : ℕ) → take n (empty_cells m) ++ empty_cells (n - length (empty_cells m)) ≡ empty_cells n
cut-empty zero zero = refl
cut-empty zero (suc n) = let all : suc n - 0 ≡ suc n = omega arith in rw all refl
cut-empty (suc m) zero = let none : 0 - length (empty_cells (suc m)) ≡ 0 = omega arith in rw none refl
cut-empty (suc m) (suc n) =
    let less : suc n - suc (length (empty_cells m)) ≡ n - length (empty_cells m) = omega arith in
    ap (λ cells. empty_cell ∷ cells) (rw less (cut-empty m n))

pub resized-empty : (r area : Rect) (old new : BufferData) → IsEmptied r old → IsResized area old new → IsEmptied area new
resized-empty r area old new empty is = record {
  area = is.area_is;
  cells = is.cells ∙ ap (λ cells. take (area_size area) cells ++ empty_cells (area_size area - length cells)) empty.cells
      ∙ cut-empty (area_size r) (area_size area);
}

pub sized-empty : {B : Type 0} (screen : B → Screen) (s sized : TerminalData B) → Autoresizes screen s sized
    → IsEmptied s.viewport_area s.current → IsEmptied sized.viewport_area sized.current
sized-empty {B} screen s sized found empty = elim (found.case) [
  | inl stays ↦ subst (λ (t : TerminalData B). IsEmptied t.viewport_area t.current) (sym stays.1.rest) empty
  | inr resizes ↦ resized-empty s.viewport_area sized.viewport_area s.current sized.current empty resizes.1.current
]

pub shows-rendered : {B X : Type 0} (screen : B → Screen) (ran : TerminalData B → Result (Unit {0}) X → Option Position
    → BufferData → Type 0) (renders : Rect → BufferData → BufferData → Type 0) (s t : TerminalData B)
    → IsReady screen s → IsEmptied s.viewport_area s.current → OnlyRenders ran renders → DrawOk screen ran s t
    → ShowsRendered screen renders t
shows-rendered screen ran renders s t ready empty only drawn =
    let own : t.previous.area ≡ drawn.draws.sized.viewport_area = drawn.draws.applied.areas.current in
    record {
      area = own ∙ sym (ap (λ q. q.viewport_area) drawn.draws.applied.rest);
      rendered = record {
        blank = drawn.draws.sized.current;
        emptied = subst (λ q. IsEmptied q drawn.draws.sized.current) (sym own)
            (sized-empty screen s drawn.draws.sized drawn.draws.autoresized empty);
        rendered = subst (λ q. renders q drawn.draws.sized.current t.previous) (sym own)
            (only drawn.draws.sized drawn.draws.cursor t.previous drawn.closure);
      };
      shown = λ settled. (drawn.draws.in_step ready settled).shown;
    }

-- a draw that finds the last known size changes nothing before its closure is called
pub sized-stays : {B : Type 0} (screen : B → Screen) (s sized : TerminalData B) → IsSized screen s → Autoresizes screen s sized
    → Stays screen s sized
sized-stays screen s sized known found = elim (found.case) [
  | inl stays ↦ stays.1
  | inr resizes ↦ absurd (resizes.0 known)
]

-- a draw that finds that size, over buffers of the viewport's area, and whose closure takes no memory and keeps that area is
-- refused by the backend alone
pub refused-by-backend : {B E : Type 0} (screen : B → Screen) (ran : TerminalData B → Result (Unit {0}) AllocError
    → Option Position → BufferData → Type 0) (s t : TerminalData B) (error : TerminalError E) → IsSized screen s → HasAreas s
    → ((r : TerminalData B) (cursor : Option Position) (painted : BufferData) → ran r (Err alloc_error) cursor painted → ⊥)
    → ((r : TerminalData B) (cursor : Option Position) (painted : BufferData) → ran r (Ok tt) cursor painted
    → painted.area ≡ r.current.area)
    → DrawErr screen ran s t error → IsBackendFault error
refused-by-backend screen ran s t (Backend error) known areas never keeps by = tt
refused-by-backend screen ran s t Memory known areas never keeps by =
    elim by [
      | inl resize ↦ absurd (resize.0 known)
      | inr closure ↦ absurd (never closure.refuses.sized closure.cursor t.current closure.closure)
    ]
refused-by-backend {B} screen ran s t Area known areas never keeps by =
    let stays = sized-stays screen s by.sized known by.autoresized in
    let place : by.sized.viewport_area ≡ s.viewport_area = ap (λ (x : TerminalData B). x.viewport_area) stays.rest in
    absurd (by.left.1 (record {
      current = keeps by.sized by.cursor by.painted by.closure ∙ ap (λ (x : TerminalData B). x.current.area) stays.rest
          ∙ areas.current ∙ sym place;
      previous = ap (λ (x : TerminalData B). x.previous.area) stays.rest ∙ areas.previous ∙ sym place;
    }))
refused-by-backend screen ran s t (Closure error) known areas never keeps by = by

-- what is known of a draw is known for each weaker word on its closure
module _ {B X : Type 0} (screen : B → Screen) (ran less : TerminalData B → Result (Unit {0}) X → Option Position → BufferData
    → Type 0)
    (weaker : (s : TerminalData B) (answer : Result (Unit {0}) X) (cursor : Option Position) (painted : BufferData)
    → ran s answer cursor painted → less s answer cursor painted) where
  pub drawn-weaker : (s t : TerminalData B) → DrawOk screen ran s t → DrawOk screen less s t
  drawn-weaker s t drawn = record { draws = drawn.draws; closure = weaker _ _ _ _ drawn.closure }

  pub painted-weaker : (after : Option Position → TerminalData B → TerminalData B → Type 0) (s t : TerminalData B)
      → PaintedErr screen ran after s t → PaintedErr screen less after s t
  painted-weaker after s t by = search rules

pub refused-weaker : {B E : Type 0} (screen : B → Screen) (ran less : TerminalData B → Result (Unit {0}) AllocError
    → Option Position → BufferData → Type 0)
    → ((s : TerminalData B) (answer : Result (Unit {0}) AllocError) (cursor : Option Position) (painted : BufferData)
    → ran s answer cursor painted → less s answer cursor painted)
    → (s t : TerminalData B) (error : TerminalError E) → DrawErr screen ran s t error → DrawErr screen less s t error
refused-weaker screen ran less weaker s t (Backend error) by = elim by [
  | inl resize ↦ inl resize
  | inr painted ↦ inr (painted-weaker screen ran less weaker _ s t painted)
]
refused-weaker screen ran less weaker s t Memory by = elim by [
  | inl resize ↦ inl resize
  | inr closure ↦ inr (record { refuses = closure.refuses; cursor = closure.cursor; closure = weaker _ _ _ _ closure.closure })
]
refused-weaker screen ran less weaker s t Area by = painted-weaker screen ran less weaker _ s t by
refused-weaker screen ran less weaker s t (Closure error) by = by
