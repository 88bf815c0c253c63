use Rattle.std.proofs.Common.{◌≡◌, ◌-◌, length}
use Rattle.files.specs.Moves.{to_dot}
use Rattle.files.proofs.moves.go_to_dot.Given as goal

-- what is left to do, done, leads to the same
abbrev pub invariant-loop-step : goal.invariant-loop-step
invariant-loop-step l =
    to_dot (length l.fn.field.before - l._step) l.field ≡ to_dot (length l.fn.field.before) l.fn.field
