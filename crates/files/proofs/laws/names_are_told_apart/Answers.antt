use Rattle.files.proofs.NameLemmas.{names-same}
use Rattle.files.proofs.laws.names_are_told_apart.Goals as goal

pub returns : goal.returns
returns c = names-same
