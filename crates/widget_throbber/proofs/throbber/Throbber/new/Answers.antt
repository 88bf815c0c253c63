use Rattle.std.proofs.Common.{refl}
use Rattle.std.specs.Char.{encode_utf8}
use Rattle.widget_throbber.proofs.throbber.Throbber.new.Goals as goal

pub returns : goal.returns
unfolding encode_utf8
returns c = record {
  unlabelled = refl;
  unstyled = c.new.ensures;
  unstyled_symbol = c.new-2.ensures;
  six_dots = refl;
  turns = refl;
}
