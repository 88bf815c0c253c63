use Rattle.std.proofs.lemmas.Result.{on_ok_weaker, IfErr-weaker}
use Rattle.screenplay.specs.Playing.{view_in}
use Rattle.screenplay.proofs.FrontLemmas.{Plays-draw-front, Plays-insert-front}
use Rattle.screenplay.proofs.FrontLemmas.{IsCauseOfStep-draw-front, IsCauseOfStep-insert-front}
use Rattle.screenplay.proofs.playing.play_plan.Goals as goal

pub returns-in_ok-text-in-Draw-clause-ok : goal.returns-in_ok-text-in-Draw-clause-ok
returns-in_ok-text-in-Draw-clause-ok c = on_ok_weaker c.draw.result (λ plays stage is good playing.
    rw c.in-Draw.is (Plays-draw-front _ stage c.args.terminal.now _ _ _
    (rw c.in_ok-text-in-Draw.ensures at (plays stage is good playing)))) c.draw.ensures.ok

pub returns-in_ok-text-in-Draw-clause-err : goal.returns-in_ok-text-in-Draw-clause-err
returns-in_ok-text-in-Draw-clause-err c = IfErr-weaker c.draw.result _ _ (λ cause why stage is playing.
    rw c.in-Draw.is (IsCauseOfStep-draw-front _ stage (view_in c.args.terminal.now) _ _ cause
    (rw c.in_ok-text-in-Draw.ensures at (why stage is playing)))) c.draw.ensures.err

pub returns-in_ok-text-in-Insert-clause-ok : goal.returns-in_ok-text-in-Insert-clause-ok
returns-in_ok-text-in-Insert-clause-ok c = on_ok_weaker c.insert.result (λ plays stage is good playing.
    rw c.in-Insert.is (Plays-insert-front _ stage c.args.terminal.now _
    (rw c.in_ok-text-in-Insert.ensures at (plays stage is good playing)))) c.insert.ensures.ok

pub returns-in_ok-text-in-Insert-clause-err : goal.returns-in_ok-text-in-Insert-clause-err
returns-in_ok-text-in-Insert-clause-err c = IfErr-weaker c.insert.result _ _ (λ cause why stage is playing.
    rw c.in-Insert.is (IsCauseOfStep-insert-front _ stage (view_in c.args.terminal.now) cause
    (rw c.in_ok-text-in-Insert.ensures at (why stage is playing)))) c.insert.ensures.err
