use Rattle.std.proofs.lemmas.Result.{on_ok_weaker}
use Rattle.ansi_model.proofs.{ScrollLemmas.turns-from, CallLemmas.cursor-moved}
use Rattle.ansi_model.proofs.screen.set_cursor_position.Goals as goal

pub returns : goal.returns
returns c = on_ok_weaker c.move_to.result (λ does w h wide high. turns-from w h _ _ _ _ does
    (cursor-moved w h c.args.x c.args.y wide high)) c.move_to.ensures.moves
