use Rattle.std.proofs.Common.{◌-◌, refl}
use Rattle.std.proofs.lemmas.Result.{on_ok_weaker}
use Rattle.ansi_model.specs.Emulator.{cursor_moved, returned, fed}
use Rattle.ansi_model.proofs.RegionLemmas.{Does-then}
use Rattle.ansi_model.proofs.screen.feed_screen.Goals as goal

pub returns : goal.returns
returns c =
    let first = rw c.saturating_sub.ensures at c.in_ok-move_to.ensures.moves in
    on_ok_weaker c.line_feeds.result (λ does. Does-then _ _ _ (cursor_moved 0 (c.args.height - 1))
    (λ t. fed c.args.n (returned t)) first does (λ t. refl)) c.line_feeds.ensures
