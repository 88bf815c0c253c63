use Rattle.ratatui_acts.proofs.RunLemmas.{light-runs}
use Rattle.ratatui_acts.proofs.laws.light_messages_are_never_refused.Goals as goal

pub returns : goal.returns
returns g c = light-runs _
