use Rattle.std.proofs.Common.{◌≡◌, false, true, arith}
use Rattle.ratatui_core.specs.Buffer.{pieces_at, room_at}
use Rattle.ratatui_core.proofs.BufferLemmas.{text-keeps}
use Rattle.widget_boxes.proofs.PaintLemmas.{part-has_row, part-starts, paints-within, short-painted}
use Rattle.widget_scrollbar.proofs.scrollbar.paint_symbol.Goals as goal

pub set_stringn-requires-clause-row : goal.set_stringn-requires-clause-row
set_stringn-requires-clause-row c =
    let b = c.requires.here.bottom in
    part-has_row c.args.area c.args.buf.now.area c.args.at.y c.requires.some c.requires.inside c.requires.here.top (omega arith)

pub set_stringn-requires-clause-column : goal.set_stringn-requires-clause-column
set_stringn-requires-clause-column c = part-starts c.args.area c.args.buf.now.area c.args.at.x c.requires.some c.requires.inside
    c.requires.here.left

pub returns-in_err-set_stringn-clause-within : goal.returns-in_err-set_stringn-clause-within
returns-in_err-set_stringn-clause-within c =
    let keeps = text-keeps c.args.buf.now.area c.args.at.x c.from.result c.args.style c.args.symbol.now in
    let l = c.requires.here.left in let r = c.requires.here.right in let b = c.requires.here.bottom in
    paints-within c.set_stringn.result c.args.area c.args.at.x c.args.at.y
    (pieces_at c.args.buf.now.area c.args.at.x c.from.result c.args.style c.args.symbol.now)
    c.args.buf.now c.set_stringn.new.self c.requires.some c.requires.inside l (omega arith) c.requires.here.top (omega arith)
    c.set_stringn.ensures.paints

pub returns-clause-within : goal.returns-clause-within
returns-clause-within c =
    let keeps = text-keeps c.args.buf.now.area c.args.at.x c.from.result c.args.style c.args.symbol.now in
    let l = c.requires.here.left in let r = c.requires.here.right in let b = c.requires.here.bottom in
    paints-within c.set_stringn.result c.args.area c.args.at.x c.args.at.y
    (pieces_at c.args.buf.now.area c.args.at.x c.from.result c.args.style c.args.symbol.now)
    c.args.buf.now c.set_stringn.new.self c.requires.some c.requires.inside l (omega arith) c.requires.here.top (omega arith)
    c.set_stringn.ensures.paints

pub returns-in_err-set_stringn-clause-short : goal.returns-in_err-set_stringn-clause-short
returns-in_err-set_stringn-clause-short c = λ short.
    let no : false ≡ true = c.in_err-set_stringn.ensures.paints.short
    (short-painted (room_at c.args.buf.now.area c.args.at.x c.from.result) c.args.style
    c.args.symbol.now c.utf8.symbol short) in
    absurd (cc)
