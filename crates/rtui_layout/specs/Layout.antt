-- What a layout is.
use Rattle.std.specs.Prelude.{List, []}
use Rattle.rtui_geometry.specs.declared.margin.Margin.{Margin}
use Rattle.rtui_layout.specs.{declared.constraint.Constraint.Constraint}
use Rattle.rtui_layout.specs.{declared.direction.Direction.Direction}
use Rattle.rtui_layout.specs.{declared.direction.Direction.TheVariants.Vertical, declared.flex.Flex.Flex}
use Rattle.rtui_layout.specs.{declared.layout.Spacing.Spacing}
use Rattle.rtui_layout.specs.declared.flex.Flex.TheVariants as flex
use Rattle.rtui_layout.specs.declared.layout.Spacing.TheVariants.{Space}

-- how an area is to be cut into parts
pub record LayoutData : Type 0 where
  pub direction : Direction
  pub constraints : List Constraint
  pub margin : Margin
  pub flex : Flex
  pub spacing : Spacing

-- from top to bottom, no parts, no margin, no space between
abbrev pub default_layout : LayoutData
default_layout = record {
  direction = Vertical;
  constraints = [];
  margin = record { horizontal = 0; vertical = 0 };
  flex = flex.Start;
  spacing = Space 0;
}
