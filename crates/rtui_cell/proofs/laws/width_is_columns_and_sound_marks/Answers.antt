use Rattle.rtui_cell.proofs.MarkLemmas.{width_of_columns}
use Rattle.rtui_cell.proofs.laws.width_is_columns_and_sound_marks.Goals as goal

pub returns : goal.returns
returns c = width_of_columns
