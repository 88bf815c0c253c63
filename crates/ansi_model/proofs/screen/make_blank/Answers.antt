use Rattle.std.proofs.Common.{◌-◌, refl, true}
use Rattle.std.proofs.lemmas.Result.{on_ok_weaker}
use Rattle.ratatui_core.specs.Backend.{BeforeCursor}
use Rattle.ansi_model.specs.{Sgr.default_sgr}
use Rattle.ansi_model.specs.Inner.{without_modes}
use Rattle.ansi_model.specs.Emulator.{cursor_moved, erased, without_region, with_sgr, cursor_shown}
use Rattle.ansi_model.proofs.{RegionLemmas.Does-then, CallLemmas.makes-blank}
use Rattle.ansi_model.proofs.screen.make_blank.Goals as goal

pub returns : goal.returns
returns c =
    let w = c.args.width in
    let h = c.args.height in
    let one = Does-then _ _ _ without_modes (with_sgr default_sgr) c.in_ok-settle.ensures c.in_ok-push_sgr.ensures (λ t. refl) in
    let two = Does-then _ _ _ (λ t. with_sgr default_sgr (without_modes t)) without_region one c.in_ok-reset_region.ensures
    (λ t. refl) in
    let three = Does-then _ _ _ (λ t. erased BeforeCursor (cursor_moved (w - 1) (h - 1) t))
    (cursor_moved 0 0) c.in_ok-erase_all.ensures c.in_ok-move_to.ensures.moves (λ t. refl) in
    on_ok_weaker c.show_cursor.result (λ does wide high.
    makes-blank w h _ _ _ _ wide high two c.in_ok-print_letters.ensures
    (Does-then _ _ _ (λ t. cursor_moved 0 0 (erased BeforeCursor (cursor_moved (w - 1) (h - 1) t))) (cursor_shown true) three does
    (λ t. refl))) c.show_cursor.ensures
