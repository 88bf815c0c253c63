use Rattle.std.proofs.Common.{◌≡◌, true, false, refl, sym, ◌∙◌}
use Rattle.std.specs.Char.{encode_utf8}
use Rattle.widget_scrollbar.specs.Scrollbars.{is_upright}
use Rattle.widget_scrollbar.proofs.scrollbar.symbols_for.Goals as goal

pub returns-then-is_vertical : goal.returns-then-is_vertical
unfolding encode_utf8
returns-then-is_vertical c = let up : is_upright c.args.orientation ≡ true = sym c.is_vertical.ensures ∙ c.if-is_vertical.true in
    rw up refl

pub returns-else-is_vertical : goal.returns-else-is_vertical
unfolding encode_utf8
returns-else-is_vertical c = let level : is_upright c.args.orientation ≡ false = sym c.is_vertical.ensures
    ∙ c.if-is_vertical.false in rw level refl
