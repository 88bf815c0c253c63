use Rattle.std.proofs.Common.{◌<◌, length, arith}
use Rattle.std.proofs.lemmas.{Bool.Decides.nat_tests, Grind.common_steps}
use Rattle.rtui_grid.proofs.ItemLemmas.{item-set}
use Rattle.rtui_grid.proofs.blank.fill.Goals as goal

pub loop-k-preserved : goal.loop-k-preserved
loop-k-preserved g c = λ j.
    let inside : c.loop-k.k < length c.loop-k.items = grind (arith, common_steps) in
    rw (
      item-set g.T.Blank.blank c.loop-k.items c.loop-k.k j c.make_blank.new.self inside,
      c.loop-k.invariant j,
      c.make_blank.ensures,
    ) (grind (arith, nat_tests))
