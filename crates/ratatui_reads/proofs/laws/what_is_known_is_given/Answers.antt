use Rattle.ratatui_reads.proofs.SourceLemmas.{known-reads, known-bytes, recorded-reads}
use Rattle.ratatui_reads.proofs.laws.what_is_known_is_given.Goals as goal

pub returns-clause-reads : goal.returns-clause-reads
returns-clause-reads c = known-reads

pub returns-clause-bytes : goal.returns-clause-bytes
returns-clause-bytes c = known-bytes

pub returns-clause-recorded : goal.returns-clause-recorded
returns-clause-recorded c = recorded-reads
