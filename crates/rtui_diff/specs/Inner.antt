-- What private functions promise one another.
use Rattle.std.specs.Prelude.{◌≡◌, Bool, ◌&&◌}
use Rattle.std.specs.contracts.prelude.BoolPartialEq.TheImpl as flag_equality
use Rattle.rtui_style.specs.contracts.color.ColorPartialEq.TheImpl as color_equality
use Rattle.rtui_style.specs.contracts.ModifierPartialEq.TheImpl as modifier_equality
use Rattle.rtui_cell.specs.{declared.cell.Cell.Cell}
use Rattle.rtui_diff.specs.{DiffRule.Walk, declared.diff.DiffWalk.DiffWalk, declared.step.Step.Step}

-- the same but for where the walk is
pub record IsSameBut (old new : DiffWalk) : Type 0 where
  pub prev : new.prev ≡ old.prev
  pub next : new.next ≡ old.next
  pub x : new.x ≡ old.x
  pub y : new.y ≡ old.y
  pub width : new.width ≡ old.width
  pub len : new.len ≡ old.len

-- where the walk stands after a cell
abbrev pub walk_of : Step → Walk
walk_of s = record { over = s.over; left = s.left; force = s.force }

-- two cells have the same colours, modifiers and flag
unfoldable pub has_same_style : Cell → Cell → Bool
has_same_style a b =
    color_equality.eq-value.it a.fg b.fg && (color_equality.eq-value.it a.bg b.bg
    && (color_equality.eq-value.it a.underline_color b.underline_color
    && (modifier_equality.eq-value.it a.modifier b.modifier && flag_equality.eq-value.it a.skip b.skip)))
