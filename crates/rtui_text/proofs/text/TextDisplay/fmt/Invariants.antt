use Rattle.std.proofs.Common.{take}
use Rattle.std.specs.Fmt.{HasWritten, IsPlainFormatter}
use Rattle.rtui_text.proofs.LineLemmas.{broken_lines}
use Rattle.rtui_text.proofs.text.TextDisplay.fmt.Given as goal

abbrev pub invariant-loop-line : goal.invariant-loop-line
invariant-loop-line g l =
    IsPlainFormatter l.initial.f → HasWritten g.W.Write.write_str_gives l.initial.f (broken_lines (take l.line-index l.others))
    l.f
