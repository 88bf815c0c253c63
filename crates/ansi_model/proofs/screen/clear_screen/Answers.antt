use Rattle.std.proofs.Common.{◌-◌, refl}
use Rattle.std.proofs.lemmas.Result.{on_ok_weaker}
use Rattle.ratatui_core.specs.Backend.{BeforeCursor}
use Rattle.ansi_model.specs.Emulator.{cursor_moved, erased}
use Rattle.ansi_model.proofs.{ScrollLemmas.turns-from, RegionLemmas.Does-then, CallLemmas.screen-emptied}
use Rattle.ansi_model.proofs.screen.clear_screen.Goals as goal

pub returns : goal.returns
returns c =
    let w = c.args.width in
    let h = c.args.height in
    on_ok_weaker c.move_to.result (λ does wide high.
    turns-from w h _ _ (λ t. cursor_moved c.args.x c.args.y (erased BeforeCursor (cursor_moved (w - 1) (h - 1) t))) _
    (Does-then _ _ _ (λ t. erased BeforeCursor (cursor_moved (w - 1) (h - 1) t))
    (cursor_moved c.args.x c.args.y) c.in_ok-erase_all.ensures does (λ t. refl))
    (screen-emptied w h c.args.x c.args.y wide high)) c.move_to.ensures.moves
