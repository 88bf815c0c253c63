use Rattle.std.proofs.Common.{take}
use Rattle.std.specs.Fmt.{HasWritten, IsPlainFormatter}
use Rattle.rtui_text.specs.Display.{printed_spans}
use Rattle.rtui_text.proofs.line.LineDisplay.fmt.Given as goal

abbrev pub invariant-loop-span : goal.invariant-loop-span
invariant-loop-span g l =
    IsPlainFormatter l.initial.f → HasWritten g.W.Write.write_str_gives l.initial.f
    (printed_spans (take l.span-index l.span-items)) l.f
