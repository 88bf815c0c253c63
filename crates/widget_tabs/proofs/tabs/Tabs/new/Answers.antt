use Rattle.std.proofs.Common.{◌∙◌, refl, ap, rules}
use Rattle.std.specs.Char.{encode_utf8}
use Rattle.ratatui_core.specs.Style.{with_modifier, modifier_of}
use Rattle.widget_tabs.proofs.tabs.Tabs.new.Goals as goal

pub returns : goal.returns
unfolding encode_utf8
returns c = record {
  titles_are = refl;
  no_box = refl;
  selected = search rules;
  unstyled_tabs = c.new.ensures;
  reversed = c.add_modifier.ensures ∙ ap (λ s. with_modifier (modifier_of 64) s) c.new-2.ensures;
  divider = c.raw.ensures;
  blank_left = refl;
  blank_right = refl;
}
