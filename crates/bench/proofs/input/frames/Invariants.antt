use Rattle.ratatui_app.specs.{Counting.PaintsCounter, Glass.no_cursor, Glass.StandsOnGlass}
use Rattle.bench.proofs.input.frames.Given as goal

-- the number is shown
abbrev pub invariant-loop-round : goal.invariant-loop-round
invariant-loop-round l = StandsOnGlass (PaintsCounter l.seat.state) no_cursor l.glass.terminal
