use Rattle.std.proofs.Common.{refl}
use Rattle.widget_canvas.proofs.laws.marks_have_their_dots.Goals as goal

pub returns-clause-sextants : goal.returns-clause-sextants
returns-clause-sextants c = refl

pub returns-clause-octants : goal.returns-clause-octants
returns-clause-octants c = refl

pub returns-clause-quadrants : goal.returns-clause-quadrants
returns-clause-quadrants c = refl
