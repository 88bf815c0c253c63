use Rattle.pager_frames.specs.InMemory.{ShowsInMemory}
use Rattle.pager_frames.proofs.frames.print_frames.Given as goal

-- the page is shown
abbrev pub invariant-loop-k : goal.invariant-loop-k
invariant-loop-k l = ShowsInMemory l.seat.state l.glass.terminal
