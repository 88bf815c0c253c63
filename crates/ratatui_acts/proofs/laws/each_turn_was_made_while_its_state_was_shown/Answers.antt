use Rattle.ratatui_acts.proofs.{RunLemmas.run-timely}
use Rattle.ratatui_acts.proofs.laws.each_turn_was_made_while_its_state_was_shown.Goals as goal

pub returns : goal.returns
returns g c = run-timely _
