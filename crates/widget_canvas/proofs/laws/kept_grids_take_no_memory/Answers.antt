use Rattle.widget_canvas.proofs.KeptLemmas.{kept-short}
use Rattle.widget_canvas.proofs.laws.kept_grids_take_no_memory.Goals as goal

pub returns : goal.returns
returns c = kept-short
