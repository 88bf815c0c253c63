use Rattle.text_area.proofs.LineLaws.{up-down}
use Rattle.text_area.proofs.laws.going_down_undoes_going_up.Goals as goal

pub returns : goal.returns
returns c = up-down
