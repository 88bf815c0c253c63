use Rattle.std.proofs.Common.{arith, refl}
use Rattle.rtui_buffer.proofs.RowLemmas.{IsSettled-rows, length-rows, ShowsLines-rows}
use Rattle.rtui_buffer.proofs.buffer.Buffer.with_lines.Goals as goal

pub invariant_of-result : goal.invariant_of-result
invariant_of-result c = record {
  count = rw c.in_ok-content.ensures.items (length-rows c.lines_width.result c.args.lines.now);
  fits = rw c.in_ok-content.ensures.items (rw (length-rows c.lines_width.result c.args.lines.now) c.in_ok-content.ensures.room);
  edges = record { right = omega arith; bottom = omega arith };
}

pub returns-clause-settled : goal.returns-clause-settled
returns-clause-settled c = rw c.in_ok-content.ensures.items (IsSettled-rows c.lines_width.result c.args.lines.now)

pub returns-clause-lines : goal.returns-clause-lines
returns-clause-lines c = rw (c.in_ok-content.ensures.items, c.lines_width.ensures) (record {
  area = refl;
  cells = refl;
  rows = ShowsLines-rows _ c.args.lines.now;
})
