use Rattle.std.proofs.Common.{◌≡◌, take}
use Rattle.rtui_text.proofs.lines.Items+Line.from_slice.Given as goal

abbrev pub invariant-loop-line : goal.invariant-loop-line
invariant-loop-line l = l.items.items ≡ take l.line-index l.lines
