use Rattle.guide.proofs.LabelLemmas.{stands}
use Rattle.guide.proofs.labels.pieces_stand.Goals as goal

pub returns : goal.returns
returns c = stands
