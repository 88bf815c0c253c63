use Rattle.widget_canvas.proofs.KeptLemmas.{kept-shows}
use Rattle.widget_canvas.proofs.laws.kept_grids_show_the_same.Goals as goal

pub returns : goal.returns
returns c = kept-shows
