use Rattle.std.proofs.Common.{◌≡◌, max, drop}
use Rattle.rtui_text.specs.Widths.{widest}
use Rattle.rtui_text.proofs.text.Text.width.Given as goal

abbrev pub invariant-loop-line : goal.invariant-loop-line
invariant-loop-line l = max l.width (widest (drop l.line-index l.line-items)) ≡ widest l.line-items
