use Rattle.ratatui_acts.proofs.{ReadingLemmas.run-given}
use Rattle.ratatui_acts.proofs.laws.the_reads_are_what_a_source_gave.Goals as goal

pub returns : goal.returns
returns g c = run-given _ g.S.Source.coming (λ h bytes passed h' given. given.0)
