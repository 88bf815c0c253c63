use Rattle.std.proofs.Common.{◌≡◌, ◌++◌, map, string_bytes}
use Rattle.std.specs.List.{flat_map}
use Rattle.files.specs.Names.{shown_name_char}
use Rattle.files.proofs.names.push_name.Given as goal

abbrev pub invariant-loop-c : goal.invariant-loop-c
invariant-loop-c l = string_bytes l.text ≡ string_bytes l.initial.text ++ flat_map shown_name_char (map (λ ch. ch) l.yielded)
