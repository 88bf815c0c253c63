use Rattle.ratatui_files.proofs.LawLemmas.{stays}
use Rattle.ratatui_files.proofs.laws.what_is_not_named_stays.Goals as goal

pub returns : goal.returns
returns c = stays
