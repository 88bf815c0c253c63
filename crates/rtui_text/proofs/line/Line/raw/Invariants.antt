use Rattle.std.proofs.Common.{◌≡◌, map}
use Rattle.rtui_text.specs.Text.{unstyled}
use Rattle.rtui_text.proofs.line.Line.raw.Given as goal

abbrev pub invariant-loop-line : goal.invariant-loop-line
invariant-loop-line l = l.spans ≡ map unstyled (map (λ t. t.now) l.yielded)
