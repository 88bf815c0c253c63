use Rattle.std.proofs.Common.{ℕ, ◌≡◌, ◌≤◌, ◌+◌, length, sym, ◌∙◌, subst, arith}
use Rattle.rtui_split.specs.{Cut.first_cell, Cut.area_end, Split.cells_of, Split.NoneTakes, Split.gap_units, Flexed.gap_cells}
use Rattle.rtui_split.specs.{Flexed.SpacesAre}
use Rattle.rtui_split.proofs.FlexedLemmas.{gap_in_units, packed_gap, little_left, no_spaces, some_part, spaces_fit}
use Rattle.rtui_split.proofs.CutLemmas.{InOrder-le}
use Rattle.rtui_split.proofs.laws.who_takes_the_rest_leaves_nothing.Goals as goal

pub returns : goal.returns
returns c = λ l area parts split space keeps packed taker few fits.
    let d = l.direction in
    let n = length l.constraints in
    let cells = cells_of d area in
    let places = split.flexed space keeps (some_part l.constraints taker) (spaces_fit l cells fits) in
    let laid = places.5 in
    let ordered : first_cell d area ≤ area_end d area = InOrder-le d (first_cell d area) (area_end d area) parts
    (split.in_order space) in
    let end : first_cell d area + cells ≡ area_end d area = omega (arith, ordered) in
    let gap : places.2 ≡ gap_units l.spacing = packed_gap l.flex (NoneTakes l.constraints) n (gap_units l.spacing) places.1
    places.2 places.3 packed keeps laid.flexed in
    let little : places.1 + places.3 ≤ 1000000 = omega (
      arith,
      few,
      little_left l cells places.1 places.2 places.3 places.0 packed gap taker (laid.sizes.rest fits) laid.whole,
    ) in
    let Q : ℕ → Type 0 = λ b. SpacesAre d (first_cell d area) b (λ s. s ≡ 0) (λ s. s ≡ gap_cells l.spacing) (λ s. s ≡ 0) parts in
    subst Q end
    (no_spaces (gap_cells l.spacing) (first_cell d area) places.4 places.1 places.2 places.3 cells n d places.0 parts laid.half
    (sym split.count) laid.edges laid.whole little (gap ∙ gap_in_units l.spacing))
