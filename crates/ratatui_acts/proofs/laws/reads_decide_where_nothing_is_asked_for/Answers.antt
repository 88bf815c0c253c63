use Rattle.ratatui_acts.proofs.{ReadingLemmas.run-reads}
use Rattle.ratatui_acts.proofs.laws.reads_decide_where_nothing_is_asked_for.Goals as goal

pub returns : goal.returns
returns g c = λ nothing. run-reads _ nothing
