use Rattle.std.proofs.Common.{refl, sym, arith, length-append, [], ◌∷◌}
use Rattle.std.proofs.lemmas.List.{drop_all}
use Rattle.screenplay.specs.declared.scene.PlayCause.TheVariants.{Memory}
use Rattle.screenplay.proofs.RunLemmas.{HasRun-start, HasRun-push, IsRun-played, IsPlay-refused}
use Rattle.rtui_geometry.proofs.Lists.{element-next}
use Rattle.script_words.proofs.ResultLemmas.{ok-unless-err, err-unless-ok}
use Rattle.screenplay.proofs.playing.play.Goals as goal

pub loop-index-init : goal.loop-index-init
loop-index-init c =
    let added = c.in-Ok-add_scene.ensures.ok in
    rw (added.1, c.new-scenes.ensures.items) (record {
      count = refl;
      ran = HasRun-start c.args.stage c.args.steps.now c.in-Ok.terminal added.0 c.in-Ok.ensures.0 c.in-Ok.ensures.1 added.2;
    })

pub loop-index-preserved : goal.loop-index-preserved
loop-index-preserved c =
    let before = c.loop-index.invariant in
    let left = element-next c.args.steps.now c.loop-index.index c.index-steps-index.result c.loop-index-test.true
    c.index-steps-index.is in
    let added = c.in-Ok-add_scene-2.ensures.ok in
    rw added.1 (record {
      count = omega (arith, before.count, length-append c.loop-index.scenes.items (added.0 ∷ []));
      ran = HasRun-push c.args.stage c.args.steps.now _ _ _ _ (rw left at before.ran) _ added.0
          (ok-unless-err c.play_step.result _ c.in_default-play_step.not-Err c.play_step.ensures.ok c.args.stage refl c.requires
          before.ran.playing) added.2;
    })

pub returns-clause-ok : goal.returns-clause-ok
returns-clause-ok c =
    let none = drop_all c.loop-index.index c.args.steps.now c.loop-index-test.false in
    IsRun-played c.args.stage c.args.steps.now _ _ (rw none at c.loop-index.invariant.ran)

pub returns-in-Err-clause-fault : goal.returns-in-Err-clause-fault
returns-in-Err-clause-fault c =
    let before = c.loop-index.invariant in
    let left = element-next c.args.steps.now c.loop-index.index c.index-steps-index.result c.loop-index-test.true
    c.index-steps-index.is in
    let why = c.in-Err.ensures.err c.args.stage refl before.ran.playing in
    rw c.fault-in-Err.ensures (
      sym before.count,
      IsPlay-refused c.args.stage c.args.steps.now _ _ _ _
          (rw left at before.ran) c.in-Err.cause why,
    )

pub returns-in_default-add_scene-2-clause-fault : goal.returns-in_default-add_scene-2-clause-fault
returns-in_default-add_scene-2-clause-fault c =
    let before = c.loop-index.invariant in
    let left = element-next c.args.steps.now c.loop-index.index c.index-steps-index.result c.loop-index-test.true
    c.index-steps-index.is in
    let refused = err-unless-ok c.add_scene-in-loop-index.result _ c.in_default-add_scene-2.not-Ok
    c.add_scene-in-loop-index.ensures.err in
    rw (c.fault-in_default-add_scene-2.ensures, refused)
    (sym before.count, IsPlay-refused c.args.stage c.args.steps.now _ _ _ c.loop-index.terminal (rw left at before.ran) Memory tt)
