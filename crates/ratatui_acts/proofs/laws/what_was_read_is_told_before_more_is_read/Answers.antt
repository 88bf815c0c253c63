use Rattle.ratatui_acts.proofs.RunLemmas.{run-answered}
use Rattle.ratatui_acts.proofs.laws.what_was_read_is_told_before_more_is_read.Goals as goal

pub returns : goal.returns
returns g c = run-answered _
