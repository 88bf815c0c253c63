use Rattle.ratatui_files.proofs.LawLemmas.{removed-gone}
use Rattle.ratatui_files.proofs.laws.what_was_removed_is_gone.Goals as goal

pub returns : goal.returns
returns c = removed-gone
