use Rattle.std.proofs.Common.{encode_utf8, map}
use Rattle.std.specs.{List.flat_map, Fmt.HasWritten, Fmt.IsPlainFormatter}
use Rattle.rtui_text.proofs.masked.MaskedDisplay.fmt.Given as goal

abbrev pub invariant-loop-c : goal.invariant-loop-c
invariant-loop-c g l =
    IsPlainFormatter l.initial.f → HasWritten g.W.Write.write_str_gives l.initial.f (flat_map (λ _. encode_utf8 l.self.mask_char)
    (map (λ ch. ch) l.yielded)) l.f
