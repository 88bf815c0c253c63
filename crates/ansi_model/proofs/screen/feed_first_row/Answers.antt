use Rattle.std.proofs.Common.{refl, arith}
use Rattle.std.proofs.lemmas.Result.{on_ok_weaker}
use Rattle.ansi_model.specs.Emulator.{rested, with_region, without_region}
use Rattle.ansi_model.specs.Inner.{fed_and_lowered_by}
use Rattle.ansi_model.proofs.RegionLemmas.{Does-then, rounds-more, rounds-all, rounds-rested}
use Rattle.ansi_model.proofs.screen.feed_first_row.Goals as goal

pub loop-init : goal.loop-init
loop-init c = record {
  bytes = c.in_ok-set_region.ensures.bytes;
  appended = c.in_ok-set_region.ensures.appended;
  read = c.in_ok-set_region.ensures.read;
}

pub loop-preserved : goal.loop-preserved
loop-preserved c = rounds-more _ _ _ c.loop.counter (with_region 0 2) (λ t. refl) c.loop.invariant c.in_ok-feed_and_lower.ensures

pub returns : goal.returns
returns c =
    let all = rounds-all _ _ c.loop.counter c.args.n (with_region 0 2) (omega arith) c.loop.invariant in
    on_ok_weaker c.reset_region.result (λ does. Does-then _ _ _ (λ t. fed_and_lowered_by c.args.n (with_region 0 2 t))
    without_region all does (λ t. rounds-rested c.args.n (with_region 0 2 (rested t)) refl)) c.reset_region.ensures
