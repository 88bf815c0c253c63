use Rattle.std.proofs.Common.{◌<◌, ◌^◌, arith}
use Rattle.text_places.specs.Places.{places_before}
use Rattle.text_places.proofs.LineLemmas.{before-row}
use Rattle.pager.specs.Places.{breaking}
use Rattle.pager.proofs.RowLemmas.{rows-most}
use Rattle.pager.proofs.pager.Pager.place_before.Goals as goal

pub returns-then-self-clause-row : goal.returns-then-self-clause-row
returns-then-self-clause-row c =
    rw c.places_before.ensures.place
    (before-row (breaking c.args.self.now) (2 ^ 32) (rows-most c.args.self.now) c.args.rows (c.place.result) (omega (arith, c.place.ensures.row)))
