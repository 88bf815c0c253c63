-- Words that only private contracts use: what a layout says of the lane that is cut, and of its parts.
use Rattle.std.specs.Prelude.{◌≡◌, List}
use Rattle.rtui_geometry.specs.declared.rect.Rect.{Rect}
use Rattle.rtui_layout.specs.{declared.constraint.Constraint.Constraint, Layout.LayoutData}
use Rattle.rtui_split.specs.{declared.place.Lane.Lane, declared.lane.Rule.Rule, Cut.first_cell, Cut.area_end}
use Rattle.rtui_split.specs.{Cut.IsSpace, Split.gap_units}

-- the columns or rows of an area along a layout's direction
pub record IsLane (l : LayoutData) (area : Rect) (lane : Lane) : Type 0 where
  pub cut : lane.area ≡ area
  pub direction : lane.direction ≡ l.direction
  pub start : lane.start ≡ first_cell l.direction area
  pub end : lane.end ≡ area_end l.direction area

-- what a layout says of its parts and of the room that none takes
pub record IsRule (l : LayoutData) (constraints : List Constraint) (rule : Rule) : Type 0 where
  pub parts : constraints ≡ l.constraints
  pub flex : rule.flex ≡ l.flex
  pub gap : rule.gap ≡ gap_units l.spacing
  pub overlap : IsSpace l.spacing → rule.overlap ≡ 0
