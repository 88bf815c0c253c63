use Rattle.ratatui_files.proofs.LawLemmas.{made-empty}
use Rattle.ratatui_files.proofs.laws.what_was_made_is_empty.Goals as goal

pub returns : goal.returns
returns c = made-empty
