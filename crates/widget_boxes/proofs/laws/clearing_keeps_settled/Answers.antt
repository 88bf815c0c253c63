use Rattle.widget_boxes.proofs.ClearLemmas.{clear-settled}
use Rattle.widget_boxes.proofs.laws.clearing_keeps_settled.Goals as goal

pub returns : goal.returns
returns c = clear-settled
