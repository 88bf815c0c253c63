use Rattle.std.proofs.Common.{ℕ, ◌≡◌, ◌≤◌, ◌+◌, length, sym, subst, arith}
use Rattle.rtui_split.specs.Cut.{first_cell, area_end}
use Rattle.rtui_split.specs.{Split.cells_of, Split.NoneTakes, Spaces.IsFlexed, Flexed.gap_cells, Flexed.FlexedSpaces}
use Rattle.rtui_split.proofs.{CutLemmas.InOrder-le, FlexedLemmas.gap_in_units, FlexedLemmas.flexed_spaces}
use Rattle.rtui_split.proofs.laws.spaces_are_as_the_flex_says.Goals as goal

pub returns : goal.returns
returns c = λ l area parts split space keeps some few spaced.
    let d = l.direction in
    let none = NoneTakes l.constraints in
    let cells = cells_of d area in
    let places = split.flexed space keeps some spaced in
    let laid = places.5 in
    let ordered : first_cell d area ≤ area_end d area = InOrder-le d (first_cell d area) (area_end d area) parts
    (split.in_order space) in
    let end : first_cell d area + cells ≡ area_end d area = omega (arith, ordered) in
    let P : ℕ → Type 0 = λ g. IsFlexed l.flex none (length l.constraints) g places.1 places.2 places.3 in
    let Q : ℕ → Type 0 = λ b. FlexedSpaces l.flex none (gap_cells l.spacing) d (first_cell d area) b parts in
    subst Q end
    (flexed_spaces (gap_cells l.spacing) (first_cell d area) places.4 places.1 places.2 places.3 cells (length l.constraints) d
    places.0 parts laid.half (sym split.count) laid.edges laid.whole l.flex none few
    (subst P (gap_in_units l.spacing) laid.flexed))
