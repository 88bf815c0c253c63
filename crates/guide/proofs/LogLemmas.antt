-- An insertion and a draw after it, as a list of calls.
use Rattle.std.proofs.Common.{◌≡◌, [], ◌∷◌, Bool, Result, Ok, Err, IfOk, OnOk, IsTrue, refl, sym, ap, ◌∙◌, inl, inr, arith}
use Rattle.std.specs.declared.alloc.AllocError.{AllocError}
use Rattle.ratatui_core.specs.{Layout.Rect, Buffer.BufferData, Buffer.IsSettledBuffer, Backend.Screen, Backend.screen_area}
use Rattle.ratatui_core.specs.Terminal.{TerminalData, IsInline, IsInStep, TakesRows, InsertOk, DrawsFrame}
use Rattle.ratatui_core.specs.Headline.{KeepsRows, Insert, Draw}
use Rattle.guide.specs.Logging.{Logs}

area_same : (old new : Screen) → new.width ≡ old.width → new.height ≡ old.height → screen_area new ≡ screen_area old
area_same old new width height = rw (width, height) refl

pub logs : {B : Type 0} (screen : B → Screen) (area : Rect) (filled : Result (Unit {0}) AllocError → BufferData → Type 0)
    (s m t : TerminalData B) → KeepsRows screen
    → IsInStep screen s → TakesRows screen s → InsertOk screen area filled s m → DrawsFrame screen m t
    → IsSettledBuffer t.previous → Logs screen filled s t
logs {B = B} screen area filled s m t law step takes insert draw settled =
    let height : (screen s.backend).height ≡ s.last_known_area.height = ap (λ (r : Rect). r.height) takes.known in
    let inserts = insert.inserts (omega (arith, takes.row, step.on_screen.bottom, height)) in
    let known : m.last_known_area ≡ s.last_known_area = ap (λ (x : TerminalData B). x.last_known_area) inserts.rest in
    let sized : screen_area (screen m.backend) ≡ m.last_known_area = area_same (screen s.backend)
    (screen m.backend) inserts.shape.width inserts.shape.height ∙ takes.known ∙ sym known in
    let after : IsSettledBuffer insert.inserted → IsInStep screen m = inserts.in_step takes step in
    record {
      rows = insert.inserted;
      closure = insert.closure;
      above = λ fair.
          let size = (draw.keeps (after fair) (inr sized) settled).size in
          law s (record { call = Insert insert.inserted; after = m } ∷ record {
            call = Draw t.previous;
            after = t;
          } ∷ []) step takes.inline
          (inserts, ((refl, record { before = m; taken = inl refl; then = draw }), tt))
          ((fair, takes), (settled, tt))
          (tt, (area_same (screen m.backend) (screen t.backend) size.width size.height ∙ sized, tt));
      in_step = λ fair. draw.in_step (inl (after fair)) settled;
    }

-- by the draw's answer
pub logs_if : {B E : Type 0} (screen : B → Screen) (area : Rect) (filled : Result (Unit {0}) AllocError → BufferData → Type 0)
    (s m t : TerminalData B) → KeepsRows screen
    → (IsInline s.viewport → InsertOk screen area filled s m) → (answer : Result Bool E) → OnOk answer (DrawsFrame screen m t)
    → IfOk answer (λ settled. IsTrue settled → IsSettledBuffer t.previous)
    → IfOk answer (λ settled. IsTrue settled → IsInStep screen s → TakesRows screen s → Logs screen filled s t)
logs_if screen area filled s m t law insert (Ok settled) draw fair = λ is step takes. logs screen area filled s m t law step takes
    (insert takes.inline) draw (fair is)
logs_if screen area filled s m t law insert (Err error) draw fair = tt
