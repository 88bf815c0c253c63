use Rattle.std.proofs.Common.{◌≡◌, ◌+◌, arith, ap}
use Rattle.ratatui_core.specs.Buffer.{pieces_at, columns}
use Rattle.ratatui_core.proofs.BufferLemmas.{text-keeps}
use Rattle.widget_boxes.proofs.PaintLemmas.{part-has_row, part-starts, part-right, paints-within}
use Rattle.widget_field.proofs.PaintLemmas.{text-painted, text-end, pieces-short, never}
use Rattle.widget_field.proofs.painting.paint_text.Goals as goal

pub set_stringn-requires-clause-row : goal.set_stringn-requires-clause-row
set_stringn-requires-clause-row c = part-has_row c.args.part c.args.buf.now.area c.args.y c.requires.some c.requires.inside
    c.requires.top c.requires.bottom

pub set_stringn-requires-clause-column : goal.set_stringn-requires-clause-column
set_stringn-requires-clause-column c = part-starts c.args.part c.args.buf.now.area c.args.x c.requires.some c.requires.inside
    c.requires.left

pub returns-in_err-end-clause-within : goal.returns-in_err-end-clause-within
returns-in_err-end-clause-within c =
    let keeps = text-keeps c.args.buf.now.area c.args.x c.from.result c.args.style c.args.text.now in
    paints-within c.set_stringn.result c.args.part c.args.x c.args.y
    (pieces_at c.args.buf.now.area c.args.x c.from.result c.args.style c.args.text.now) c.args.buf.now c.set_stringn.new.self
    c.requires.some c.requires.inside c.requires.left (omega arith) c.requires.top c.requires.bottom c.set_stringn.ensures.paints

pub returns-clause-within : goal.returns-clause-within
returns-clause-within c =
    let keeps = text-keeps c.args.buf.now.area c.args.x c.from.result c.args.style c.args.text.now in
    paints-within c.set_stringn.result c.args.part c.args.x c.args.y
    (pieces_at c.args.buf.now.area c.args.x c.from.result c.args.style c.args.text.now) c.args.buf.now c.set_stringn.new.self
    c.requires.some c.requires.inside c.requires.left (omega arith) c.requires.top c.requires.bottom c.set_stringn.ensures.paints

pub returns-clause-ok : goal.returns-clause-ok
returns-clause-ok c =
    let fits = part-right c.args.part c.args.buf.now.area c.args.x c.args.max c.requires.some c.requires.inside c.requires.right
    in
    text-painted c.args.x c.args.y c.from.result c.args.max c.args.style c.args.text.now c.args.buf.now c.set_stringn.new.self
    c.from.ensures fits (omega arith) c.in_ok-end.ensures.paints.ok

pub returns-clause-end : goal.returns-clause-end
returns-clause-end c =
    let fits = part-right c.args.part c.args.buf.now.area c.args.x c.args.max c.requires.some c.requires.inside c.requires.right
    in
    text-end c.args.buf.now.area c.args.x c.from.result c.args.max c.in_ok-end.end c.args.style c.args.text.now
    (ap (λ p. p.0) c.in_ok-end.ensures.place) c.from.ensures fits (omega arith)

pub returns-clause-fits : goal.returns-clause-fits
returns-clause-fits c =
    let keeps = text-keeps c.args.buf.now.area c.args.x c.from.result c.args.style c.args.text.now in
    let place : c.in_ok-end.end ≡ c.args.x + columns
    (pieces_at c.args.buf.now.area c.args.x c.from.result c.args.style c.args.text.now) =
    ap (λ p. p.0) c.in_ok-end.ensures.place in
    omega arith

pub returns-in_err-end-clause-short : goal.returns-in_err-end-clause-short
returns-in_err-end-clause-short c = λ short.
    let fits = part-right c.args.part c.args.buf.now.area c.args.x c.args.max c.requires.some c.requires.inside c.requires.right
    in
    never (c.in_err-end.ensures.paints.short (pieces-short c.args.buf.now.area c.args.x c.from.result c.args.max c.args.style
    c.args.text.now c.from.ensures fits (omega arith) short))
