use Rattle.std.proofs.Common.{map}
use Rattle.std.specs.{List.flat_map, Fmt.HasWritten, Fmt.IsPlainFormatter}
use Rattle.rtui_text.proofs.span.SpanDisplay.fmt.Given as goal

abbrev pub invariant-loop-line : goal.invariant-loop-line
invariant-loop-line g l =
    IsPlainFormatter l.initial.f → HasWritten g.W.Write.write_str_gives l.initial.f (flat_map (λ line. line)
    (map (λ t. t.now) l.yielded)) l.f
