use Rattle.std.proofs.Common.{◌≡◌, take}
use Rattle.rtui_text.specs.Widths.{line_width}
use Rattle.rtui_text.proofs.line.Line.width.Given as goal

abbrev pub invariant-loop-span : goal.invariant-loop-span
invariant-loop-span l = l.width ≡ line_width (take l.span-index l.span-items)
