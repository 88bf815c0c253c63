use Rattle.std.proofs.Common.{refl, arith}
use Rattle.std.proofs.lemmas.List.{drop_all}
use Rattle.rtui_geometry.proofs.Lists.{element-next}
use Rattle.script_words.proofs.ResultLemmas.{ok-unless-err}
use Rattle.screenplay.proofs.ActLemmas.{HasPlayed-none, HasPlayed-step, HasPlayed-show, PrintsActs-all, EndsEarly-next}
use Rattle.screenplay.proofs.engine.play_acts.Goals as goal
use Rattle.screenplay.proofs.engine.play_acts.Goals.{in-Play+in_default-play_plan, in-Show+in_ok-show-in-Show}

pub loop-act-init : goal.loop-act-init
loop-act-init c = record {
  few = omega arith;
  played = rw c.new-text.ensures.items (HasPlayed-none c.args.stage c.args.acts.now c.in-Ok.terminal c.in-Ok.ensures.0
      c.in-Ok.ensures.1);
}

pub loop-act-preserved : goal.loop-act-preserved
loop-act-preserved c =
    let before = c.loop-act.invariant in
    let acts = c.args.acts.now in
    let left = element-next acts c.loop-act.act-index c.act-item.result c.loop-act-test.true c.act-item.is in
    let played = rw left at before.played in
    elim c.match-act.branch [
      | in-Play+in_default-play_plan w ↦ record {
        few = omega (arith, before.few, w.steps-is);
        played =
            rw (w.text-is, w.steps-is, w.terminal-is)
            (HasPlayed-step c.args.stage acts _ _ _ _ _ (rw w.in-Play.is at played) _
            (ok-unless-err w.play_plan.result _ w.in_default-play_plan.not-Err w.play_plan.ensures.ok c.args.stage refl c.requires
            before.played.ran.playing));
      }
      | in-Show+in_ok-show-in-Show w ↦ record {
        few = omega (arith, before.few, w.steps-is);
        played = rw (w.steps-is, w.terminal-is)
            (HasPlayed-show c.args.stage acts _ _ _ _ c.match-act.text.items (rw w.in-Show.is at played)
            (rw w.text-is w.in_ok-show-in-Show.ensures.ok));
      }
    ]

pub returns-clause-ok : goal.returns-clause-ok
returns-clause-ok c =
    let none = drop_all c.loop-act.act-index c.args.acts.now c.loop-act-test.false in
    PrintsActs-all c.args.stage c.args.acts.now _ _ _ (rw none at c.loop-act.invariant.played)

pub returns-in-Err-clause-fault : goal.returns-in-Err-clause-fault
returns-in-Err-clause-fault c =
    let before = c.loop-act.invariant in
    let acts = c.args.acts.now in
    let left = element-next acts c.loop-act.act-index c.act-item.result c.loop-act-test.true c.act-item.is in
    rw c.step_fault-in-Err.ensures
    (EndsEarly-next c.args.stage acts _ _ _ _ _ (rw c.in-Play.is at (rw left at before.played)) c.in-Err.cause
    (c.in-Err.ensures.err c.args.stage refl before.played.ran.playing))
