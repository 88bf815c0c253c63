use Rattle.ratatui_reads.specs.Recorded.{recorded_reads}
use Rattle.ratatui_acts.proofs.{ReadingLemmas.run-recorded}
use Rattle.ratatui_acts.proofs.laws.the_reads_are_those_recorded.Goals as goal

pub returns-clause-untimed : goal.returns-clause-untimed
returns-clause-untimed g c = run-recorded _ recorded_reads (λ h bytes passed h' given. given.0)

pub returns-clause-timed : goal.returns-clause-timed
returns-clause-timed g c = run-recorded _ (λ k. recorded_reads k.source) (λ h bytes passed h' given. given.0)
