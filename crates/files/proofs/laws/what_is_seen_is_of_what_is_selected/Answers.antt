use Rattle.files.proofs.GlanceLemmas.{ahead-there, above-there}
use Rattle.files.proofs.laws.what_is_seen_is_of_what_is_selected.Goals as goal

pub returns-clause-ahead : goal.returns-clause-ahead
returns-clause-ahead c = ahead-there

pub returns-clause-above : goal.returns-clause-above
returns-clause-above c = above-there
