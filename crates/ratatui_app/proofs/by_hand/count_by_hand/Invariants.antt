use Rattle.ratatui_app.specs.{Counting.PaintsCounter, Glass.no_cursor, Glass.StandsOnGlass}
use Rattle.ratatui_app.proofs.by_hand.count_by_hand.Given as goal

-- the number is shown
abbrev pub invariant-loop : goal.invariant-loop
invariant-loop g l = StandsOnGlass (PaintsCounter l.seat.state) no_cursor l.glass.terminal
