use Rattle.std.proofs.Common.{◌≡◌, encode_utf8, map}
use Rattle.std.specs.{List.flat_map, String.string_bytes}
use Rattle.rtui_text.proofs.masked.Masked.shown.Given as goal

abbrev pub invariant-loop-c : goal.invariant-loop-c
invariant-loop-c l = string_bytes l.shown ≡ flat_map (λ _. encode_utf8 l.self.mask_char) (map (λ ch. ch) l.yielded)
