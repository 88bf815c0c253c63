-- The parts of an area with the spaces before, between and after them.
use Rattle.std.specs.Prelude.{◌≡◌, ◌+◌, List, length, All}
use Rattle.rtui_geometry.specs.declared.rect.Rect.{Rect}
use Rattle.rtui_layout.specs.Layout.{LayoutData}
use Rattle.rtui_split.specs.Cut.{first_cell, area_end, Alternate, SpansAcross, IsSpace}
use Rattle.rtui_split.specs.{declared.calls.Cut.Cut, Split.IsSplit}

-- one space more than parts, across the area. Without overlap spaces and parts stand in turn, and nothing is
-- left out
pub record AreSpacers (l : LayoutData) (area : Rect) (spacers parts : List Rect) : Type 0 where
  pub count : length spacers ≡ length l.constraints + 1
  pub across : All (SpansAcross l.direction area) spacers
  pub turns : IsSpace l.spacing → Alternate l.direction (first_cell l.direction area)
      (area_end l.direction area) spacers parts

pub record IsSplitWithSpacers (l : LayoutData) (area : Rect) (cut : Cut) : Type 0 where
  pub parts : IsSplit l area cut.segments.items
  pub spaces : AreSpacers l area cut.spacers.items cut.segments.items
