use Rattle.std.proofs.Common.{refl}
use Rattle.std.specs.Char.{encode_utf8}
use Rattle.widget_tree.proofs.tree.Tree.new.Goals as goal

pub returns : goal.returns
unfolding encode_utf8
returns c = record {
  items_are = c.in_ok-new.ensures;
  no_box = refl;
  unstyled = c.new-2.ensures;
  unstyled_highlight = c.new-3.ensures;
  no_symbol = refl;
  open_symbol = refl;
  closed_symbol = refl;
  no_children_symbol = refl;
}
