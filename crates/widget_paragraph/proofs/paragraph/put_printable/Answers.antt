use Rattle.std.proofs.Common.{arith}
use Rattle.ratatui_core.specs.Buffer.{piece_of, position_of}
use Rattle.widget_paragraph.proofs.ParagraphLemmas.{printable-width, put-paints}
use Rattle.widget_paragraph.proofs.paragraph.put_printable.Goals as goal

pub returns-clause-succeeds : goal.returns-clause-succeeds
returns-clause-succeeds c = c.put.ensures.short (omega (arith, c.requires.one))

pub returns-clause-paints : goal.returns-clause-paints
returns-clause-paints c =
    put-paints c.put.result (position_of (c.args.x, c.args.y)) (piece_of c.args.style c.args.symbol.now)
    c.args.buf.now c.put.new.self c.index_mut.result.now c.index_mut.ensures.inside
    (omega (arith, printable-width c.args.symbol.now c.requires.one))
    (c.put.ensures.short (omega (arith, c.requires.one))) c.index_mut.ensures.value c.put.ensures.ok
