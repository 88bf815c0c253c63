use Rattle.std.proofs.Common.{◌≡◌, map}
use Rattle.rtui_text.specs.{Text.unstyled, Widths.line_width}
use Rattle.rtui_buffer.proofs.buffer.lines.raw_width.Given as goal

abbrev pub invariant-loop-line : goal.invariant-loop-line
invariant-loop-line l = l.width ≡ line_width (map unstyled (map (λ t. t.now) l.yielded))
