use Rattle.ratatui_files.proofs.LawLemmas.{written-read}
use Rattle.ratatui_files.proofs.laws.what_was_written_is_read.Goals as goal

pub returns : goal.returns
returns c = written-read
