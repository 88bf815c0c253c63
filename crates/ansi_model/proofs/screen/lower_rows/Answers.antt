use Rattle.std.proofs.Common.{refl}
use Rattle.std.proofs.lemmas.Result.{on_ok_weaker}
use Rattle.ansi_model.specs.Emulator.{cursor_moved, with_region, without_region, lines_inserted}
use Rattle.ansi_model.proofs.RegionLemmas.{Does-then}
use Rattle.ansi_model.proofs.screen.lower_rows.Goals as goal

pub returns : goal.returns
returns c =
    let region = with_region c.args.top c.args.end in
    on_ok_weaker c.reset_region.result (λ does.
    Does-then _ _ _ (λ t. lines_inserted c.args.n (cursor_moved 0 c.args.top (region t))) without_region
    (Does-then _ _ _ (λ t. cursor_moved 0 c.args.top (region t)) (lines_inserted c.args.n)
    (Does-then _ _ _ region (cursor_moved 0 c.args.top) c.in_ok-set_region.ensures c.in_ok-move_to.ensures.moves (λ t. refl))
    c.in_ok-insert_lines.ensures (λ t. refl))
    does (λ t. refl)) c.reset_region.ensures
