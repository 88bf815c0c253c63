use Rattle.widget_field.proofs.ViewLemmas.{view-full}
use Rattle.widget_field.proofs.laws.no_room_is_wasted.Goals as goal

pub returns : goal.returns
returns c = view-full
