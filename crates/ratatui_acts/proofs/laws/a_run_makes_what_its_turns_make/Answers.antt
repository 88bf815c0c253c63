use Rattle.ratatui_acts.proofs.RunLemmas.{run-makes}
use Rattle.ratatui_acts.proofs.laws.a_run_makes_what_its_turns_make.Goals as goal

pub returns : goal.returns
returns g c = run-makes _
