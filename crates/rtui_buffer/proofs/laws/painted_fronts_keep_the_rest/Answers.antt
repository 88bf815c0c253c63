use Rattle.rtui_buffer.proofs.PaintsLemmas.{front-beside, front-unmarked, front-settled}
use Rattle.rtui_buffer.proofs.laws.painted_fronts_keep_the_rest.Goals as goal

pub returns-clause-beside : goal.returns-clause-beside
returns-clause-beside c = front-beside

pub returns-clause-marks : goal.returns-clause-marks
returns-clause-marks c = front-unmarked

pub returns-clause-settled : goal.returns-clause-settled
returns-clause-settled c = front-settled
