use Rattle.std.proofs.Common.{◌≡◌, map, take}
use Rattle.rtui_text.specs.Text.{raw_line, text_of}
use Rattle.screenplay.proofs.raw_lines.RawLines.to_text.Given as goal

abbrev pub invariant-loop-line : goal.invariant-loop-line
invariant-loop-line l = l.text ≡ text_of (map raw_line (take l.line-index l.line-items))
