use Rattle.std.proofs.Common.{◌≡◌, ◌+◌, ◌≤◌, arith, ap, sym, length, true, rules, ◌∙◌}
use Rattle.unicode_segmentation.specs.Grapheme.{graphemes}
use Rattle.rtui_buffer.specs.{Painting.text_pieces, PaintedText.room_at, PaintedText.pieces_at}
use Rattle.rtui_buffer.proofs.{PaintsLemmas.Paints-written, PaintsLemmas.Paints-refused, PaintedLemmas.columns-kept}
use Rattle.rtui_buffer.proofs.{PaintedLemmas.AreWide-kept, TextLemmas.text_pieces-none, TextLemmas.Paints-none}
use Rattle.rtui_buffer.proofs.buffer.Buffer.set_stringn.Goals as goal

pub returns-clause-paints : goal.returns-clause-paints
returns-clause-paints c =
    let len : c.self.inside.content.len ≡ length c.as_mut_slice.result.now = sym c.as_mut_slice.ensures.len in
    let room = c.room_at-room.ensures ∙ ap (λ s. room_at s.area c.args.x c.args.max) c.self.view_is in
    let pieces : text_pieces c.room_at-room.result c.args.style c.args.text.now ≡ pieces_at c.args.self.now.area c.args.x
    c.args.max c.args.style c.args.text.now = ap (λ n. text_pieces n c.args.style c.args.text.now) room in
    let inside : c.index_of-start.result + c.room_at-room.result ≤ length c.as_mut_slice.result.now = grind (arith) in
    let le = columns-kept c.args.style c.room_at-room.result (graphemes true c.args.text.now) in
    rw (← pieces) (Paints-written c.args.self.now c.args.x c.args.y _ _ _ _ _ (ap (λ s. s.cells) c.self.view_is)
    c.as_mut_slice.ensures.value len c.index_of-start.ensures.value _ _ (ap (λ s. s.area) c.self.view_is)
    (ap (λ s. s.room) c.self.view_is) _ (AreWide-kept _ _ _) (omega arith) _ _ c.in_ok-used.ensures.paints)

pub returns-in_err-used-clause-paints : goal.returns-in_err-used-clause-paints
returns-in_err-used-clause-paints c =
    let len : c.self.inside.content.len ≡ length c.as_mut_slice.result.now = sym c.as_mut_slice.ensures.len in
    let room = c.room_at-room.ensures ∙ ap (λ s. room_at s.area c.args.x c.args.max) c.self.view_is in
    let pieces : text_pieces c.room_at-room.result c.args.style c.args.text.now ≡ pieces_at c.args.self.now.area c.args.x
    c.args.max c.args.style c.args.text.now = ap (λ n. text_pieces n c.args.style c.args.text.now) room in
    let inside : c.index_of-start.result + c.room_at-room.result ≤ length c.as_mut_slice.result.now = grind (arith) in
    let le = columns-kept c.args.style c.room_at-room.result (graphemes true c.args.text.now) in
    rw (← pieces) (Paints-refused c.args.self.now c.args.x c.args.y _ _ _ _ _ (ap (λ s. s.cells) c.self.view_is)
    c.as_mut_slice.ensures.value len c.index_of-start.ensures.value _ _ (ap (λ s. s.area) c.self.view_is)
    (ap (λ s. s.room) c.self.view_is) _ (AreWide-kept _ _ _) (omega arith) _ (search rules) c.in_err-used.ensures.paints)

pub returns-then-room-eq0-clause-paints : goal.returns-then-room-eq0-clause-paints
returns-then-room-eq0-clause-paints c =
    let room = c.room_at-room.ensures ∙ ap (λ s. room_at s.area c.args.x c.args.max) c.self.view_is in
    Paints-none _ _ _ _ (text_pieces-none _ _ _ (sym room ∙ c.if-room-eq0.true))
