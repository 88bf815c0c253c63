use Rattle.std.proofs.Common.{refl}
use Rattle.canvas_map.proofs.laws.low_resolution_leaves_points_out.Goals as goal

pub returns : goal.returns
returns c = refl
