use Rattle.files.proofs.GlanceLemmas.{looks-quiet, aim-light}
use Rattle.files.proofs.laws.looks_delay_no_key_and_change_nothing.Goals as goal

pub returns-clause-quiet : goal.returns-clause-quiet
returns-clause-quiet c = looks-quiet

pub returns-clause-light : goal.returns-clause-light
returns-clause-light c = aim-light
