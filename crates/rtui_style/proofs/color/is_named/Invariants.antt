use Rattle.std.proofs.Common.{◌≡◌, nat_eq, length, drop}
use Rattle.std.specs.{Cmp.Lexicographic.pointwise, Str.chars}
use Rattle.rtui_style.proofs.Names.{counting}
use Rattle.rtui_style.proofs.color.is_named.Given as goal

abbrev pub invariant-loop-c : goal.invariant-loop-c
invariant-loop-c l =
    pointwise nat_eq l.rest (counting (drop (length l.yielded) (chars l.text))) ≡ pointwise nat_eq l.name
    (counting (chars l.text))
