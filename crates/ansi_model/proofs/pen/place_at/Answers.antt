use Rattle.std.proofs.Common.{refl}
use Rattle.ansi_model.proofs.DisputeLemmas.{place-paints}
use Rattle.ansi_model.proofs.PlaceLemmas.{places-moved}
use Rattle.ansi_model.proofs.pen.place_at.Goals as goal

pub returns-clause-paints : goal.returns-clause-paints
returns-clause-paints c = place-paints c.args.x c.args.y c.args.pen.now _ _ _ c.in_ok-move_to.ensures.moves refl refl

pub returns-clause-places : goal.returns-clause-places
returns-clause-places c = places-moved c.args.x c.args.y _ c.args.pen.now _ _ _ c.in_ok-move_to.ensures.moves refl refl
