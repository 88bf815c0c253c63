use Rattle.std.proofs.Common.{◌≡◌, map, option_map, string_bytes}
use Rattle.files.specs.Ways.{after_parts}
use Rattle.files.proofs.ways.after_parts.Given as goal

abbrev pub invariant-loop-part : goal.invariant-loop-part
invariant-loop-part l = option_map string_bytes l.at ≡ after_parts (map (λ part. part.now) l.yielded)
