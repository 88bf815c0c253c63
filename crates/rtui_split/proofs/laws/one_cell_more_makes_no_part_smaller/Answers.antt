use Rattle.std.proofs.Common.{ℕ, ◌*◌, ◌≤◌, subst, arith}
use Rattle.rtui_split.specs.{Units.cell_units, Wishes.wished_before, Split.cells_of, Split.SharesRest}
use Rattle.rtui_split.proofs.GrowthLemmas.{grown, cells_small}
use Rattle.rtui_split.proofs.laws.one_cell_more_makes_no_part_smaller.Goals as goal

pub returns : goal.returns
returns c = λ l area longer parts more split divided space keeps one fits later.
    let P : ℕ → Type 0 = λ n. SharesRest l n more in
    let Q : ℕ → Type 0 = λ n. wished_before 5 n l.constraints ≤ n * cell_units in
    let wished : Q (cells_of l.direction longer) = omega (arith, later) in
    grown l (cells_of l.direction area) parts more (omega (arith, one, cells_small l.direction longer)) (subst Q one wished)
    (split.rest space keeps fits) (subst P one (divided.rest space keeps later))
