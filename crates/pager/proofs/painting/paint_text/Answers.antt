use Rattle.std.proofs.Common.{◌≡◌, ◌+◌, arith, Ok, subst, ap, ◌∙◌}
use Rattle.ratatui_core.specs.Buffer.{pieces_at, columns, IsReadyAt}
use Rattle.ratatui_core.proofs.{BufferLemmas.text-keeps, BufferLemmas.put-ready}
use Rattle.widget_boxes.proofs.PaintLemmas.{part-has_row, part-starts, part-right, paints-within}
use Rattle.pager.proofs.PaintLemmas.{text-painted, text-columns}
use Rattle.pager.proofs.painting.paint_text.Goals as goal

pub set_stringn-requires-clause-row : goal.set_stringn-requires-clause-row
set_stringn-requires-clause-row c = part-has_row c.args.part c.args.buf.now.area c.args.y c.requires.some c.requires.inside
    c.requires.top c.requires.bottom

pub set_stringn-requires-clause-column : goal.set_stringn-requires-clause-column
set_stringn-requires-clause-column c = part-starts c.args.part c.args.buf.now.area c.args.x c.requires.some c.requires.inside
    c.requires.left

pub returns-in_err-end-clause-within : goal.returns-in_err-end-clause-within
returns-in_err-end-clause-within c =
    let keeps = text-keeps c.args.buf.now.area c.args.x c.from.result c.args.style c.args.text.now in
    paints-within c.set_stringn.result c.args.part c.args.x c.args.y
    (pieces_at c.args.buf.now.area c.args.x c.from.result c.args.style c.args.text.now) c.args.buf.now c.set_stringn.new.self
    c.requires.some c.requires.inside c.requires.left (omega arith) c.requires.top c.requires.bottom c.set_stringn.ensures.paints

pub returns-clause-within : goal.returns-clause-within
returns-clause-within c =
    let keeps = text-keeps c.args.buf.now.area c.args.x c.from.result c.args.style c.args.text.now in
    paints-within c.set_stringn.result c.args.part c.args.x c.args.y
    (pieces_at c.args.buf.now.area c.args.x c.from.result c.args.style c.args.text.now) c.args.buf.now c.set_stringn.new.self
    c.requires.some c.requires.inside c.requires.left (omega arith) c.requires.top c.requires.bottom c.set_stringn.ensures.paints

pub returns-clause-ok : goal.returns-clause-ok
returns-clause-ok c =
    let fits = part-right c.args.part c.args.buf.now.area c.args.x c.args.max c.requires.some c.requires.inside c.requires.right
    in
    text-painted c.args.x c.args.y c.from.result c.args.max c.args.style c.args.text.now c.args.buf.now c.set_stringn.new.self
    c.from.ensures fits (omega arith) c.in_ok-end.ensures.paints.ok

pub returns-clause-end : goal.returns-clause-end
returns-clause-end c =
    let fits = part-right c.args.part c.args.buf.now.area c.args.x c.args.max c.requires.some c.requires.inside c.requires.right
    in
    let place : c.in_ok-end.end ≡ c.args.x + columns
    (pieces_at c.args.buf.now.area c.args.x c.from.result c.args.style c.args.text.now) =
    ap (λ p. p.0) c.in_ok-end.ensures.place in
    place ∙ ap (λ n. c.args.x + n)
    (text-columns c.args.buf.now.area c.args.x c.from.result c.args.max c.args.style c.args.text.now c.from.ensures fits
    (omega arith))

pub returns-clause-fits : goal.returns-clause-fits
returns-clause-fits c =
    let keeps = text-keeps c.args.buf.now.area c.args.x c.from.result c.args.style c.args.text.now in
    let place : c.in_ok-end.end ≡ c.args.x + columns
    (pieces_at c.args.buf.now.area c.args.x c.from.result c.args.style c.args.text.now) =
    ap (λ p. p.0) c.in_ok-end.ensures.place in
    omega arith

pub returns-clause-ready : goal.returns-clause-ready
returns-clause-ready c = λ ready.
    let ps = pieces_at c.args.buf.now.area c.args.x c.from.result c.args.style c.args.text.now in
    let keeps = text-keeps c.args.buf.now.area c.args.x c.from.result c.args.style c.args.text.now in
    let place : c.in_ok-end.end ≡ c.args.x + columns ps = ap (λ p. p.0) c.in_ok-end.ensures.place in
    let fits = part-right c.args.part c.args.buf.now.area c.args.x (columns ps) c.requires.some c.requires.inside (omega arith) in
    subst (λ x. IsReadyAt x c.args.y c.set_stringn.new.self) (omega arith)
    (put-ready (Ok (c.in_ok-end.end, c.in_ok-end.field-0-1)) c.args.x c.args.y
    (columns ps) ps c.args.buf.now c.set_stringn.new.self ready
    (part-has_row c.args.part c.args.buf.now.area c.args.y c.requires.some c.requires.inside c.requires.top c.requires.bottom)
    (part-starts c.args.part c.args.buf.now.area c.args.x c.requires.some c.requires.inside c.requires.left)
    fits (omega arith) c.in_ok-end.ensures.paints)
