-- The spaces before, between and after parts, in whole columns or rows.
use Rattle.std.specs.Prelude.{ℕ, ◌≡◌, ◌+◌, ◌-◌, ◌*◌, ◌≤◌, ⊤, List, [], ◌∷◌}
use Rattle.rtui_geometry.specs.declared.rect.Rect.{Rect}
use Rattle.rtui_layout.specs.declared.flex.Flex.TheVariants.{Legacy, Start, End, Center, SpaceBetween}
use Rattle.rtui_layout.specs.declared.flex.Flex.TheVariants.{SpaceAround, SpaceEvenly}
use Rattle.rtui_layout.specs.{declared.direction.Direction.Direction, declared.flex.Flex.Flex}
use Rattle.rtui_layout.specs.{declared.layout.Spacing.Spacing, declared.layout.Spacing.TheVariants.Space}
use Rattle.rtui_layout.specs.{Layout.LayoutData}
use Rattle.rtui_split.specs.Cut.{first_cell, after_of, area_end, AtMostCells, AtLeastCells}
use Rattle.rtui_split.specs.Split.{NoneTakes}

-- so many units are cut to so many cells: the whole number below or above
abbrev pub IsCutUnits : ℕ → ℕ → Type 0
IsCutUnits units cells = AtMostCells units cells × AtLeastCells units cells

-- what holds of each space after a part that ends here: of each before another part, and of the last one
abbrev pub SpacesAfter : Direction → ℕ → ℕ → (ℕ → Type 0) → (ℕ → Type 0) → List Rect → Type 0
SpacesAfter d a b Middle Last [] = Last (b - a)
SpacesAfter d a b Middle Last (p ∷ ps) = Middle (first_cell d p - a)
    × SpacesAfter d (after_of d p) b Middle Last ps

-- what holds of the space before the first part, of those between two, and of the one after the last
abbrev pub SpacesAre : Direction → ℕ → ℕ → (ℕ → Type 0) → (ℕ → Type 0) → (ℕ → Type 0) → List Rect → Type 0
SpacesAre d a b First Middle Last [] = ⊤
SpacesAre d a b First Middle Last (p ∷ ps) = First (first_cell d p - a)
    × SpacesAfter d (after_of d p) b Middle Last ps

-- where the rest goes, in cells, if no part takes it: all of it after the last part, before the first, or
-- half and half; or the spaces share it, each with the whole number of cells below or above its share
abbrev pub FlexedSpaces : Flex → Type 0 → ℕ → Direction → ℕ → ℕ → List Rect → Type 0
FlexedSpaces Legacy none gap d a b ps = ⊤
FlexedSpaces Start none gap d a b ps = SpacesAre d a b (λ s. s ≡ 0) (λ s. s ≡ gap) (λ s. ⊤) ps
FlexedSpaces End none gap d a b ps = SpacesAre d a b (λ s. ⊤) (λ s. s ≡ gap) (λ s. none → s ≡ 0) ps
FlexedSpaces Center none gap d a b ps = (lead : ℕ) × SpacesAre d a b (λ s. s ≡ lead) (λ s. s ≡ gap)
    (λ s. none → (s ≤ lead) × (lead ≤ s + 1)) ps
FlexedSpaces SpaceBetween none gap d a b ps = (share : ℕ) × SpacesAre d a b (λ s. s ≡ 0)
    (IsCutUnits share) (λ s. s ≡ 0) ps
FlexedSpaces SpaceAround none gap d a b ps = (share : ℕ) × SpacesAre d a b (IsCutUnits share)
    (IsCutUnits (2 * share)) (IsCutUnits share) ps
FlexedSpaces SpaceEvenly none gap d a b ps = (share : ℕ) × SpacesAre d a b (IsCutUnits share)
    (IsCutUnits share) (IsCutUnits share) ps

-- the space between two parts, in cells
abbrev pub gap_cells : Spacing → ℕ
gap_cells (Space n) = n
gap_cells _ = 0

-- no space at the ends, and between two parts no more than their gap
abbrev pub LeavesNoSpace : LayoutData → Rect → List Rect → Type 0
LeavesNoSpace l area parts = SpacesAre l.direction (first_cell l.direction area) (area_end l.direction area)
    (λ s. s ≡ 0) (λ s. s ≡ gap_cells l.spacing) (λ s. s ≡ 0) parts

abbrev pub HasFlexedSpaces : LayoutData → Rect → List Rect → Type 0
HasFlexedSpaces l area parts = FlexedSpaces l.flex (NoneTakes l.constraints) (gap_cells l.spacing) l.direction
    (first_cell l.direction area) (area_end l.direction area) parts
