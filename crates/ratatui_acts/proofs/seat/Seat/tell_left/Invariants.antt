use Rattle.std.specs.Prelude.{◌≡◌, false}
use Rattle.ratatui_acts.proofs.TakingLemmas.{Left}
use Rattle.ratatui_acts.proofs.seat.Seat.tell_left.Given as goal

-- what is left makes what all makes
abbrev pub invariant-loop-done : goal.invariant-loop-done
invariant-loop-done g l =
    Left g.A.Acts l.fn.self.decoder l.fn.self.left l.fn.self.state l.self.decoder l.self.left l.self.state l.done l.anew
    × (l.changed ≡ false → (l.fn.before ≡ false) × (l.self.state ≡ l.fn.self.state))
