-- A draw, a clear, a resize and an insertion as a list of calls.
use Rattle.std.proofs.Common.{◌≡◌, ◌<◌, ◌∷◌, [], Result, refl, ap, inl, arith}
use Rattle.std.specs.declared.alloc.AllocError.{AllocError}
use Rattle.ratatui_core.specs.{Layout.Rect, Buffer.BufferData, Buffer.IsSettledBuffer, Backend.Screen}
use Rattle.ratatui_core.specs.Terminal.{TerminalData, IsInline, IsInStep, InsertOk, DrawsFrame, ClearsViewport, Resizes}
use Rattle.ratatui_core.specs.Headline.{IsHeadline, Draw, Clear, Resize, Insert}
use Rattle.guide.specs.Renewing.{Renews}

pub renews : {B : Type 0} (screen : B → Screen) (area : Rect) (over : TerminalData B → Rect)
    (filled : TerminalData B → Result (Unit {0}) AllocError → BufferData → Type 0) (s drawn cleared resized t : TerminalData B)
    → IsHeadline screen
    → IsInStep screen s → DrawsFrame screen s drawn → IsSettledBuffer drawn.previous → ClearsViewport screen drawn cleared
    → Resizes screen area cleared resized
    → (IsInline resized.viewport → InsertOk screen (over resized) (filled resized) resized t) → Renews screen area filled s t
renews screen area over filled s drawn cleared resized t law step draw settled clear resize insert = record {
  drawn = drawn;
  cleared = cleared;
  resized = resized;
  faithful = λ takes on.
      let height : (screen resized.backend).height ≡ resized.last_known_area.height = ap (λ (r : Rect). r.height) takes.known in
      let rows = insert takes.inline in
      let some : 0 < resized.last_known_area.height = omega (arith, takes.row, on.bottom, height) in (
        rows.inserted,
        rows.closure,
        λ fair.
            law s (record { call = Draw drawn.previous; after = drawn } ∷ record {
              call = Clear;
              after = cleared;
            } ∷ record { call = Resize area; after = resized } ∷ record {
              call = Insert rows.inserted;
              after = t;
            } ∷ []) step
            ((refl, record { before = s; taken = inl refl; then = draw }), (clear, (resize, (rows.inserts some, tt))))
            (settled, (tt, (on, ((fair, takes), tt)))),
      );
}
