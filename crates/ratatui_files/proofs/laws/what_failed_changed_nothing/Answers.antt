use Rattle.ratatui_files.proofs.LawLemmas.{failed-same}
use Rattle.ratatui_files.proofs.laws.what_failed_changed_nothing.Goals as goal

pub returns : goal.returns
returns c = failed-same
