use Rattle.std.proofs.Common.{◌≡◌, map}
use Rattle.rtui_text.specs.Text.{raw_line}
use Rattle.rtui_text.proofs.text.Text.raw.Given as goal

abbrev pub invariant-loop-line : goal.invariant-loop-line
invariant-loop-line l = l.lines ≡ map raw_line (map (λ t. t.now) l.yielded)
