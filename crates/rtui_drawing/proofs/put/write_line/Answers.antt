use Rattle.std.proofs.Common.{ap, arith}
use Rattle.rtui_buffer.specs.Line.{line_pieces}
use Rattle.rtui_drawing.proofs.WriteLemmas.{room-is, line-fits, written, written-front}
use Rattle.rtui_drawing.proofs.put.write_line.Goals as goal

pub returns-in_err-x-clause-done : goal.returns-in_err-x-clause-done
returns-in_err-x-clause-done c =
    written-front c.args.row (line_pieces c.args.row.width c.args.line.now.style c.args.line.now.spans) c.args.buf.now
    c.set_line.new.self c.requires (line-fits c.args.buf.now.area c.args.row c.args.line.now c.requires)
    c.in_err-x.field-0.0 c.from_residual.result c.from_residual.ensures.0
    (rw (room-is c.args.buf.now.area c.args.row c.requires) at c.in_err-x.ensures.paints)

pub returns-clause-done : goal.returns-clause-done
returns-clause-done c =
    written c.args.row (line_pieces c.args.row.width c.args.line.now.style c.args.line.now.spans) c.args.buf.now
    c.set_line.new.self c.requires (line-fits c.args.buf.now.area c.args.row c.args.line.now c.requires) _ _
    (rw (room-is c.args.buf.now.area c.args.row c.requires) at c.in_ok-x.ensures.paints)

pub returns-clause-fits : goal.returns-clause-fits
returns-clause-fits c =
    let fits = line-fits c.args.buf.now.area c.args.row c.args.line.now c.requires in
    let place = rw (room-is c.args.buf.now.area c.args.row c.requires) at (ap (λ q. q.0) c.in_ok-x.ensures.place) in
    omega arith
