use Rattle.text_area.specs.Areas.{area_text, target}
use Rattle.text_area.proofs.DraftLemmas.{text-at}
use Rattle.text_area.proofs.laws.moving_keeps_the_text.Goals as goal

pub returns-clause-text : goal.returns-clause-text
returns-clause-text c = λ a to. text-at (area_text a) (target to a)
