use Rattle.std.proofs.Common.{◌≡◌, ◌+◌, ◌<◌, length, ◌∙◌, arith}
use Rattle.std.proofs.lemmas.{Bool.Decides.nat_tests, Grind.common_steps, List.get_or_default}
use Rattle.rtui_grid.specs.Items.{item}
use Rattle.rtui_grid.proofs.ItemLemmas.{item-set}
use Rattle.rtui_grid.proofs.block.swap_parts.Goals as goal

pub loop-k-preserved : goal.loop-k-preserved
loop-k-preserved g c =
    let d = g.T.Blank.blank in
    let items = c.loop-k.items in
    let others = c.loop-k.others in
    let i = c.args.at + c.loop-k.k in
    let p = c.args.start + c.loop-k.k in
    let known = c.loop-k.invariant in
    let i_in : i < length items = grind (arith, common_steps) in
    let p_in : p < length others = grind (arith, common_steps) in
    let given : c.swap.new.x ≡ item d c.args.others.now p = c.swap.ensures.x_after ∙ get_or_default others p _ d p_in
    ∙ known.others_after p (omega arith) in
    record {
      moved = λ j lt. rw (item-set d items i (c.args.at + j) c.swap.new.x i_in, given) (grind (arith, nat_tests, known.moved));
      before = λ j lt. rw (item-set d items i j c.swap.new.x i_in) (grind (arith, nat_tests, known.before));
      after = λ j le. rw (item-set d items i j c.swap.new.x i_in) (grind (arith, nat_tests, known.after));
      others_after = λ j le. rw (item-set d others p j c.swap.new.y p_in) (grind (arith, nat_tests, known.others_after));
    }
