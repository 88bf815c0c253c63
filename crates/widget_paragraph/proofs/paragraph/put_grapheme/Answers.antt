use Rattle.std.proofs.Common.{◌≡◌, false, true, [], ◌∷◌, arith, Ok}
use Rattle.ratatui_core.specs.Buffer.{piece_of, pieces_at, position_of, room_at, text_width}
use Rattle.widget_paragraph.specs.Inner.{grapheme_in}
use Rattle.ratatui_core.proofs.{BufferLemmas.text-keeps, BufferLemmas.put-ready}
use Rattle.widget_boxes.proofs.PaintLemmas.{part-has_row, part-starts, part-right, paints-within, short-painted}
use Rattle.widget_boxes.proofs.PaintLemmas.{part-place}
use Rattle.widget_paragraph.proofs.ParagraphLemmas.{grapheme-painted, printable-width, printable-piece}
use Rattle.widget_paragraph.proofs.paragraph.put_grapheme.Goals as goal

pub put_printable-requires-clause-place : goal.put_printable-requires-clause-place
put_printable-requires-clause-place c =
    let one = printable-width c.args.symbol.now (c.is_printable.ensures.one c.if-is_printable.true) in
    c.requires.inside (position_of (c.args.x, c.args.y)) (part-place c.args.part c.args.x c.args.y c.requires.some
    c.requires.left (omega (arith, one, c.requires.width)) c.requires.top c.requires.bottom)

pub returns-then-is_printable-clause-within : goal.returns-then-is_printable-clause-within
returns-then-is_printable-clause-within c =
    let one = printable-width c.args.symbol.now (c.is_printable.ensures.one c.if-is_printable.true) in
    paints-within c.put_printable.result c.args.part c.args.x c.args.y (piece_of c.args.style c.args.symbol.now ∷ [])
    c.args.buf.now c.put_printable.new.buf c.requires.some c.requires.inside c.requires.left
    (omega (arith, one, c.requires.width)) c.requires.top c.requires.bottom c.put_printable.ensures.paints

pub returns-then-is_printable-clause-ok : goal.returns-then-is_printable-clause-ok
returns-then-is_printable-clause-ok c =
    let text = c.args.symbol.now in
    let one = c.is_printable.ensures.one c.if-is_printable.true in
    let all = c.is_printable.ensures.printable c.if-is_printable.true in
    rw (printable-piece (text_width text) c.args.style text one all (omega (arith, printable-width text one)))
    c.put_printable.ensures.paints.ok

pub returns-then-is_printable-clause-ready : goal.returns-then-is_printable-clause-ready
returns-then-is_printable-clause-ready c = λ ready.
    let one = printable-width c.args.symbol.now (c.is_printable.ensures.one c.if-is_printable.true) in
    put-ready c.put_printable.result c.args.x c.args.y c.args.columns (piece_of c.args.style c.args.symbol.now ∷ [])
    c.args.buf.now c.put_printable.new.buf ready
    (part-has_row c.args.part c.args.buf.now.area c.args.y c.requires.some c.requires.inside c.requires.top c.requires.bottom)
    (part-starts c.args.part c.args.buf.now.area c.args.x c.requires.some c.requires.inside c.requires.left)
    (part-right c.args.part c.args.buf.now.area c.args.x c.args.columns c.requires.some c.requires.inside c.requires.right)
    (omega (arith, one, c.requires.width)) c.put_printable.ensures.paints

pub set_stringn-requires-clause-row : goal.set_stringn-requires-clause-row
set_stringn-requires-clause-row c = part-has_row c.args.part c.args.buf.now.area c.args.y c.requires.some c.requires.inside
    c.requires.top c.requires.bottom

pub set_stringn-requires-clause-column : goal.set_stringn-requires-clause-column
set_stringn-requires-clause-column c = part-starts c.args.part c.args.buf.now.area c.args.x c.requires.some c.requires.inside
    c.requires.left

pub returns-in_err-set_stringn-clause-within : goal.returns-in_err-set_stringn-clause-within
returns-in_err-set_stringn-clause-within c =
    let keeps = text-keeps c.args.buf.now.area c.args.x c.from.result c.args.style c.args.symbol.now in
    paints-within c.set_stringn.result c.args.part c.args.x c.args.y
    (pieces_at c.args.buf.now.area c.args.x c.from.result c.args.style c.args.symbol.now)
    c.args.buf.now c.set_stringn.new.self
    c.requires.some c.requires.inside c.requires.left (omega arith) c.requires.top c.requires.bottom c.set_stringn.ensures.paints

pub returns-clause-within : goal.returns-clause-within
returns-clause-within c =
    let keeps = text-keeps c.args.buf.now.area c.args.x c.from.result c.args.style c.args.symbol.now in
    paints-within c.set_stringn.result c.args.part c.args.x c.args.y
    (pieces_at c.args.buf.now.area c.args.x c.from.result c.args.style c.args.symbol.now)
    c.args.buf.now c.set_stringn.new.self
    c.requires.some c.requires.inside c.requires.left (omega arith) c.requires.top c.requires.bottom c.set_stringn.ensures.paints

pub returns-clause-ready : goal.returns-clause-ready
returns-clause-ready c = λ ready.
    let keeps = text-keeps c.args.buf.now.area c.args.x c.from.result c.args.style c.args.symbol.now in
    put-ready (Ok c.in_ok-set_stringn.field-0) c.args.x c.args.y c.args.columns
    (pieces_at c.args.buf.now.area c.args.x c.from.result c.args.style c.args.symbol.now)
    c.args.buf.now c.set_stringn.new.self ready
    (part-has_row c.args.part c.args.buf.now.area c.args.y c.requires.some c.requires.inside c.requires.top c.requires.bottom)
    (part-starts c.args.part c.args.buf.now.area c.args.x c.requires.some c.requires.inside c.requires.left)
    (part-right c.args.part c.args.buf.now.area c.args.x c.args.columns c.requires.some c.requires.inside c.requires.right)
    (omega arith) c.in_ok-set_stringn.ensures.paints

pub returns-clause-ok : goal.returns-clause-ok
returns-clause-ok c =
    let box = c.requires.some in
    let across = box.across in
    let right = c.requires.right in
    grapheme-painted c.args.x c.args.y c.from.result (grapheme_in c.args.style c.args.symbol.now) c.args.buf.now
    c.set_stringn.new.self
    (omega (arith, c.requires.width))
    (part-right c.args.part c.args.buf.now.area c.args.x c.from.result c.requires.some c.requires.inside (omega arith))
    (omega arith) c.in_ok-set_stringn.ensures.paints.ok

pub returns-in_err-set_stringn-clause-short : goal.returns-in_err-set_stringn-clause-short
returns-in_err-set_stringn-clause-short c = λ short.
    let no : false ≡ true = c.in_err-set_stringn.ensures.paints.short
    (short-painted (room_at c.args.buf.now.area c.args.x c.from.result) c.args.style
    c.args.symbol.now c.utf8.symbol short) in
    absurd (cc)
