use Rattle.widget_area.proofs.PlaceLaws.{cursor-shown}
use Rattle.widget_area.proofs.laws.the_cursor_stands_in_its_row.Goals as goal

pub returns : goal.returns
returns c = cursor-shown
