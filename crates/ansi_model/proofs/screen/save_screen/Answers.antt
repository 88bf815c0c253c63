use Rattle.std.proofs.Common.{refl, arith}
use Rattle.std.proofs.lemmas.Result.{on_ok_weaker}
use Rattle.ansi_model.specs.{Sgr.default_sgr}
use Rattle.ansi_model.specs.Inner.{without_modes, scrolled_off_by}
use Rattle.ansi_model.specs.Emulator.{without_region, with_sgr}
use Rattle.ansi_model.proofs.{RegionLemmas.Does-then, CallLemmas.saves-screen, CallLemmas.saves-higher, CallLemmas.own}
use Rattle.ansi_model.proofs.screen.save_screen.Goals as goal

pub returns-clause-saves : goal.returns-clause-saves
returns-clause-saves c =
    let h = c.args.height in
    let one = Does-then _ _ _ without_modes (with_sgr default_sgr) c.in_ok-settle.ensures c.in_ok-push_sgr.ensures (λ t. refl) in
    let two = Does-then _ _ _ (λ t. with_sgr default_sgr (without_modes t)) without_region one c.in_ok-reset_region.ensures
    (λ t. refl) in
    on_ok_weaker c.scroll_off.result (λ does w wide high.
    saves-screen w h _ _ wide high (omega arith) (Does-then _ _ _ own (scrolled_off_by h) two does (λ t. refl)))
    c.scroll_off.ensures

pub returns-clause-higher : goal.returns-clause-higher
returns-clause-higher c =
    let h = c.args.height in
    let one = Does-then _ _ _ without_modes (with_sgr default_sgr) c.in_ok-settle.ensures c.in_ok-push_sgr.ensures (λ t. refl) in
    let two = Does-then _ _ _ (λ t. with_sgr default_sgr (without_modes t)) without_region one c.in_ok-reset_region.ensures
    (λ t. refl) in
    on_ok_weaker c.scroll_off.result (λ does w wide.
    saves-higher w h _ _ wide (Does-then _ _ _ own (scrolled_off_by h) two does (λ t. refl))) c.scroll_off.ensures
