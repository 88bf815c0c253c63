use Rattle.std.proofs.Common.{◌≡◌, ◌+◌, ◌-◌, arith, subst, Ok}
use Rattle.ratatui_core.specs.Buffer.{pieces_at, IsReadyAt}
use Rattle.ratatui_core.proofs.{BufferLemmas.text-keeps, BufferLemmas.put-ready}
use Rattle.widget_boxes.proofs.PaintLemmas.{part-has_row, part-starts, part-right, paints-within}
use Rattle.files.proofs.PaintLemmas.{text-painted}
use Rattle.files.proofs.page.paint_text.Goals as goal

pub set_stringn-requires-clause-row : goal.set_stringn-requires-clause-row
set_stringn-requires-clause-row c = part-has_row c.args.part c.args.buf.now.area c.args.at.y c.requires.some c.requires.inside
    c.requires.top c.requires.bottom

pub set_stringn-requires-clause-column : goal.set_stringn-requires-clause-column
set_stringn-requires-clause-column c = part-starts c.args.part c.args.buf.now.area c.args.at.x c.requires.some c.requires.inside
    c.requires.left

pub returns-in_err-set_stringn-clause-within : goal.returns-in_err-set_stringn-clause-within
returns-in_err-set_stringn-clause-within c =
    let keeps = text-keeps c.args.buf.now.area c.args.at.x c.from.result c.args.style c.args.text.now in
    let right = c.requires.right in let same = c.from.ensures in
    paints-within c.set_stringn.result c.args.part c.args.at.x c.args.at.y
    (pieces_at c.args.buf.now.area c.args.at.x c.from.result c.args.style c.args.text.now) c.args.buf.now c.set_stringn.new.self
    c.requires.some c.requires.inside c.requires.left (omega arith) c.requires.top c.requires.bottom c.set_stringn.ensures.paints

pub returns-clause-within : goal.returns-clause-within
returns-clause-within c =
    let keeps = text-keeps c.args.buf.now.area c.args.at.x c.from.result c.args.style c.args.text.now in
    let right = c.requires.right in let same = c.from.ensures in
    paints-within c.set_stringn.result c.args.part c.args.at.x c.args.at.y
    (pieces_at c.args.buf.now.area c.args.at.x c.from.result c.args.style c.args.text.now) c.args.buf.now c.set_stringn.new.self
    c.requires.some c.requires.inside c.requires.left (omega arith) c.requires.top c.requires.bottom c.set_stringn.ensures.paints

pub returns-clause-ok : goal.returns-clause-ok
returns-clause-ok c =
    let fits = part-right c.args.part c.args.buf.now.area c.args.at.x c.args.width c.requires.some c.requires.inside
    c.requires.right in
    text-painted c.args.at.x c.args.at.y c.from.result c.args.width c.args.style c.args.text.now c.args.buf.now
    c.set_stringn.new.self c.from.ensures fits (omega arith) c.in_ok-set_stringn.ensures.paints.ok

pub returns-clause-ready : goal.returns-clause-ready
returns-clause-ready c = λ ready end more right.
    let x = c.args.at.x in
    let ps = pieces_at c.args.buf.now.area x c.from.result c.args.style c.args.text.now in
    let keeps = text-keeps c.args.buf.now.area x c.from.result c.args.style c.args.text.now in
    let same = c.from.ensures in
    let is : x + (end - x) ≡ end = omega arith in
    let fits = part-right c.args.part c.args.buf.now.area x (end - x) c.requires.some c.requires.inside (omega arith) in
    subst (λ e. IsReadyAt e c.args.at.y c.set_stringn.new.self) is
    (put-ready (Ok c.in_ok-set_stringn.field-0) x c.args.at.y (end - x) ps c.args.buf.now c.set_stringn.new.self ready
    (part-has_row c.args.part c.args.buf.now.area c.args.at.y c.requires.some c.requires.inside c.requires.top c.requires.bottom)
    (part-starts c.args.part c.args.buf.now.area x c.requires.some c.requires.inside c.requires.left)
    fits (omega arith) c.in_ok-set_stringn.ensures.paints)
