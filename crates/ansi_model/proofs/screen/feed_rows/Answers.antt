use Rattle.std.proofs.Common.{◌-◌, refl, sym}
use Rattle.std.proofs.lemmas.Result.{on_ok_weaker}
use Rattle.ansi_model.specs.Emulator.{cursor_moved, returned, rested, fed, with_region, without_region}
use Rattle.ansi_model.proofs.{ReadLemmas.fed-rested, RegionLemmas.Does-then}
use Rattle.ansi_model.proofs.screen.feed_rows.Goals as goal

pub returns : goal.returns
returns c =
    let region = with_region 0 c.args.end in
    on_ok_weaker c.reset_region.result (λ does.
    Does-then _ _ _ (λ t. fed c.args.n (returned (cursor_moved 0 (c.args.end - 1) (region t)))) without_region
    (Does-then _ _ _ region (λ t. fed c.args.n (returned (cursor_moved 0 (c.args.end - 1) t))) c.in_ok-set_region.ensures
    c.in_ok-feed_screen.ensures (λ t. refl))
    does (λ t. sym (fed-rested c.args.n (returned (cursor_moved 0 (c.args.end - 1) (region (rested t))))))) c.reset_region.ensures
