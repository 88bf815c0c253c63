use Rattle.std.proofs.Common.{◌≡◌, ◌+◌, ◌≤◌, arith, ap, refl, sym, length, rules, ◌∙◌}
use Rattle.rtui_buffer.specs.{PaintedText.room_at, Line.line_pieces, Line.line_pieces_at}
use Rattle.rtui_buffer.proofs.{PaintsLemmas.Paints-written, PaintsLemmas.Paints-refused, LineLemmas.columns-line}
use Rattle.rtui_buffer.proofs.{LineLemmas.AreWide-line, LineLemmas.line_pieces-none, TextLemmas.Paints-none}
use Rattle.rtui_buffer.proofs.buffer.Buffer.set_line.Goals as goal

pub returns-clause-paints : goal.returns-clause-paints
returns-clause-paints c =
    let len : c.self.inside.content.len ≡ length c.as_mut_slice.result.now = sym c.as_mut_slice.ensures.len in
    let room = c.room_at-room.ensures ∙ ap (λ s. room_at s.area c.args.x c.from.result) c.self.view_is in
    let pieces : line_pieces c.room_at-room.result c.line.inside.style c.as_slice-spans.result.now ≡ line_pieces_at
    c.args.self.now.area c.args.x c.args.max c.args.line.now =
    rw (room, c.from.ensures, c.as_slice-spans.ensures, ← c.line.view_is) refl in
    let inside : c.index_of-start.result + c.room_at-room.result ≤ length c.as_mut_slice.result.now = grind (arith) in
    let le = columns-line c.room_at-room.result c.line.inside.style c.as_slice-spans.result.now in
    rw (← pieces) (Paints-written c.args.self.now c.args.x c.args.y _ _ _ _ _ (ap (λ s. s.cells) c.self.view_is)
    c.as_mut_slice.ensures.value len c.index_of-start.ensures.value _ _ (ap (λ s. s.area) c.self.view_is)
    (ap (λ s. s.room) c.self.view_is) _ (AreWide-line _ _ _) (omega arith) _ _ c.in_ok-used.ensures.paints)

pub returns-in_err-used-clause-paints : goal.returns-in_err-used-clause-paints
returns-in_err-used-clause-paints c =
    let len : c.self.inside.content.len ≡ length c.as_mut_slice.result.now = sym c.as_mut_slice.ensures.len in
    let room = c.room_at-room.ensures ∙ ap (λ s. room_at s.area c.args.x c.from.result) c.self.view_is in
    let pieces : line_pieces c.room_at-room.result c.line.inside.style c.as_slice-spans.result.now ≡ line_pieces_at
    c.args.self.now.area c.args.x c.args.max c.args.line.now =
    rw (room, c.from.ensures, c.as_slice-spans.ensures, ← c.line.view_is) refl in
    let inside : c.index_of-start.result + c.room_at-room.result ≤ length c.as_mut_slice.result.now = grind (arith) in
    let le = columns-line c.room_at-room.result c.line.inside.style c.as_slice-spans.result.now in
    rw (← pieces) (Paints-refused c.args.self.now c.args.x c.args.y _ _ _ _ _ (ap (λ s. s.cells) c.self.view_is)
    c.as_mut_slice.ensures.value len c.index_of-start.ensures.value _ _ (ap (λ s. s.area) c.self.view_is)
    (ap (λ s. s.room) c.self.view_is) _ (AreWide-line _ _ _) (omega arith) _ (search rules) c.in_err-used.ensures.paints)

pub returns-then-room-eq0-clause-paints : goal.returns-then-room-eq0-clause-paints
returns-then-room-eq0-clause-paints c =
    let room = c.room_at-room.ensures ∙ ap (λ s. room_at s.area c.args.x c.from.result) c.self.view_is in
    Paints-none _ _ _ _ (line_pieces-none _ _ _ (rw c.from.ensures at (sym room ∙ c.if-room-eq0.true)))
