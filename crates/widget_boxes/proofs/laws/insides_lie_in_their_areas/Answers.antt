use Rattle.std.proofs.Common.{arith}
use Rattle.widget_boxes.proofs.laws.insides_lie_in_their_areas.Goals as goal

pub returns : goal.returns
returns c = λ b area p has.
    let left = has.left in let right = has.right in let top = has.top in let bottom = has.bottom in
    record { left = omega arith; right = omega arith; top = omega arith; bottom = omega arith }
