use Rattle.widget_area.proofs.PlaceLaws.{in-view, within}
use Rattle.widget_area.proofs.laws.the_cursors_place_is_in_view.Goals as goal

pub returns-clause-place : goal.returns-clause-place
returns-clause-place c = in-view

pub returns-clause-within : goal.returns-clause-within
returns-clause-within c = within
