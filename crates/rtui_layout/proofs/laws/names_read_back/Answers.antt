use Rattle.rtui_layout.proofs.NameLemmas.{direction_reads_back, horizontal_reads_back, vertical_reads_back, flex_reads_back}
use Rattle.rtui_layout.proofs.laws.names_read_back.Goals as goal

pub returns-clause-direction : goal.returns-clause-direction
returns-clause-direction c = direction_reads_back

pub returns-clause-horizontal : goal.returns-clause-horizontal
returns-clause-horizontal c = horizontal_reads_back

pub returns-clause-vertical : goal.returns-clause-vertical
returns-clause-vertical c = vertical_reads_back

pub returns-clause-flex : goal.returns-clause-flex
returns-clause-flex c = flex_reads_back
