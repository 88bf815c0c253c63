use Rattle.std.proofs.Common.{◌<◌, ◌^◌, arith}
use Rattle.text_places.specs.Places.{text_place}
use Rattle.text_places.specs.Places.{places_before}
use Rattle.text_places.proofs.LineLemmas.{before-row}
use Rattle.pager.specs.Places.{breaking}
use Rattle.pager.proofs.RowLemmas.{rows-most}
use Rattle.pager.proofs.pager.Pager.last_place.Goals as goal

pub returns-then-self-clause-row : goal.returns-then-self-clause-row
returns-then-self-clause-row c =
    rw c.places_before.ensures.place
    (before-row (breaking c.args.self.now) (2 ^ 32) (rows-most c.args.self.now) c.page_rows.result (text_place c.len-count.result 0) (omega arith))
