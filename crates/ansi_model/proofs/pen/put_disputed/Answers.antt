use Rattle.std.proofs.Common.{◌+◌, ◌-◌, arith}
use Rattle.ansi_model.proofs.DisputeLemmas.{paints-still, paints-moved}
use Rattle.ansi_model.proofs.PlaceLemmas.{places-on-then}
use Rattle.ansi_model.proofs.pen.put_disputed.Goals as goal

pub returns-in_ok-place_at-clause-prints : goal.returns-in_ok-place_at-clause-prints
returns-in_ok-place_at-clause-prints c = λ h row.
    let end = c.args.place.x + c.args.columns in
    paints-moved c.args.width h c.args.place.x c.args.place.y (end - c.args.place.x) end c.args.symbol.now c.args.pen.now _ _ _ _
    _ (omega arith) (omega arith) c.requires.fits row
    c.in_ok-put_spaces.ensures.sgr (c.in_ok-put_spaces.ensures.paints c.args.width h c.requires.fits row)
    (c.in_ok-put_symbol.ensures.over c.requires.disputed c.args.width h (omega arith) row) _ _ (omega arith)
    (c.in_ok-place_at.ensures.paints c.args.width h (omega arith) row)

pub returns-else-end-width-clause-prints : goal.returns-else-end-width-clause-prints
returns-else-end-width-clause-prints c = λ h row.
    let end = c.args.place.x + c.args.columns in
    paints-still c.args.width h c.args.place.x c.args.place.y (end - c.args.place.x) end c.args.symbol.now c.args.pen.now _ _ _ _
    _ (omega arith) (omega arith) c.requires.fits row
    c.in_ok-put_spaces.ensures.sgr (c.in_ok-put_spaces.ensures.paints c.args.width h c.requires.fits row)
    (c.in_ok-put_symbol.ensures.over c.requires.disputed c.args.width h (omega arith) row) (omega arith)

pub returns-in_ok-place_at-clause-places : goal.returns-in_ok-place_at-clause-places
returns-in_ok-place_at-clause-places c =
    places-on-then c.in_ok-put_spaces.ensures.places
    (places-on-then c.in_ok-put_symbol.ensures.places c.in_ok-place_at.ensures.places)

pub returns-else-end-width-clause-places : goal.returns-else-end-width-clause-places
returns-else-end-width-clause-places c = places-on-then c.in_ok-put_spaces.ensures.places c.in_ok-put_symbol.ensures.places
