use Rattle.std.proofs.Common.{refl}
use Rattle.std.proofs.lemmas.Result.{on_ok_weaker}
use Rattle.ansi_model.specs.Emulator.{cursor_moved, erased}
use Rattle.ratatui_core.specs.Backend.{CurrentLine}
use Rattle.ansi_model.proofs.RegionLemmas.{Does-then}
use Rattle.ansi_model.proofs.screen.empty_row.Goals as goal

pub returns : goal.returns
returns c = on_ok_weaker c.erase.result (λ does. Does-then _ _ _ (cursor_moved 0 c.args.y)
    (erased CurrentLine) c.in_ok-move_to.ensures.moves does (λ t. refl)) c.erase.ensures
