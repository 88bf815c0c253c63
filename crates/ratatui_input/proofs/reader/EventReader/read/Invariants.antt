use Rattle.ratatui_input.specs.Reading.{KeepsAll}
use Rattle.ratatui_input.proofs.reader.EventReader.read.Given as goal

-- all that was read is kept
abbrev pub invariant-loop : goal.invariant-loop
invariant-loop g l = KeepsAll g.R.Read.remaining l.fn.self l.self
