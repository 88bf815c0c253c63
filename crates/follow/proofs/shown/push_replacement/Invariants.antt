use Rattle.std.proofs.Common.{◌≡◌, ◌-◌, ◌++◌, string_bytes, replicate}
use Rattle.follow.specs.Lines.{replacement}
use Rattle.follow.proofs.shown.push_replacement.Given as goal

abbrev pub invariant-loop : goal.invariant-loop
invariant-loop l = string_bytes l.out ++ replicate (l.columns - l.counter) 32 ≡ string_bytes l.fn.out ++ replacement l.columns
