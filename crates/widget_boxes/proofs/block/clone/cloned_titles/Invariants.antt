use Rattle.std.proofs.Common.{◌≡◌, take}
use Rattle.widget_boxes.proofs.block.clone.cloned_titles.Given as goal

abbrev pub invariant-loop-title : goal.invariant-loop-title
invariant-loop-title l = l.cloned.items ≡ take l.title-index l.titles
