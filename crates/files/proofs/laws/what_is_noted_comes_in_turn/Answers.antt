use Rattle.files.proofs.SeriesLemmas.{pasted-next, pasted-asks, pasted-keeps}
use Rattle.files.proofs.laws.what_is_noted_comes_in_turn.Goals as goal

pub returns-clause-next : goal.returns-clause-next
returns-clause-next c = pasted-next

pub returns-clause-asked : goal.returns-clause-asked
returns-clause-asked c = pasted-asks

pub returns-clause-kept : goal.returns-clause-kept
returns-clause-kept c = pasted-keeps
