use Rattle.ratatui_acts.proofs.EndingLemmas.{told-last, come-last}
use Rattle.ratatui_acts.proofs.laws.an_event_that_ends_each_state_ends_the_run.Goals as goal

pub returns-clause-told : goal.returns-clause-told
returns-clause-told g c = λ e ends. told-last _ e ends

pub returns-clause-came : goal.returns-clause-came
returns-clause-came g c = λ e nothing ends. come-last _ e nothing ends
