use Rattle.widget_field.proofs.ViewLemmas.{view-one}
use Rattle.widget_field.proofs.laws.there_is_one_view.Goals as goal

pub returns : goal.returns
returns c = view-one
