use Rattle.std.proofs.Common.{◌≡◌, take, map}
use Rattle.widget_list.specs.Items.{raw_item}
use Rattle.widget_list.proofs.list.raw_items.Given as goal

abbrev pub invariant-loop-text : goal.invariant-loop-text
invariant-loop-text l = l.items.items ≡ map (λ text. raw_item text.now) (take l.text-index l.texts)
