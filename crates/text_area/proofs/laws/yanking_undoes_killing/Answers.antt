use Rattle.text_area.proofs.LawLemmas.{yanked-back}
use Rattle.text_area.proofs.laws.yanking_undoes_killing.Goals as goal

pub returns : goal.returns
returns c = yanked-back
