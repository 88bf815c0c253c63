use Rattle.std.proofs.Common.{refl}
use Rattle.ansi_model.proofs.PlaceLemmas.{places-symbol}
use Rattle.ansi_model.proofs.pen.put_symbol.Goals as goal

pub returns-clause-places : goal.returns-clause-places
returns-clause-places c = places-symbol c.args.x c.args.y c.args.symbol.now c.args.pen.now _ _ _ _ c.in_ok-move_to.ensures.moves
    c.in_ok-push_symbol.ensures c.requires refl refl
