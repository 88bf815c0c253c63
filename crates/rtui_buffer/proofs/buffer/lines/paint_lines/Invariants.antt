use Rattle.std.proofs.Common.{◌≡◌, ◌-◌, ◌*◌, ◌++◌, length, take}
use Rattle.rtui_buffer.specs.{BufferData.empty_cells, Line.line_rows}
use Rattle.rtui_buffer.proofs.buffer.lines.paint_lines.Given as goal

abbrev pub invariant-loop-line : goal.invariant-loop-line
invariant-loop-line l = record {
  start : l.start ≡ l.line-index * l.width;
  count : length l.cells ≡ l.width * length l.lines;
  cells : l.cells ≡ line_rows l.width (take l.line-index l.lines) ++ empty_cells (l.width * (length l.lines - l.line-index));
}
