use Rattle.std.proofs.lemmas.Result.{on_ok_weaker, IfErr-weaker}
use Rattle.screenplay.proofs.PlayLemmas.{Plays-drawn, IsCauseOfStep-drawn}
use Rattle.screenplay.proofs.playing.draw.Goals as goal

pub returns-clause-ok : goal.returns-clause-ok
returns-clause-ok c = on_ok_weaker c.draw_frame.result (λ drawn stage is good playing.
    let sized = c.in_ok-take_size.ensures stage is playing in
    Plays-drawn stage c.args.size c.args.text.now c.args.puts.now c.args.terminal.now _ _ good sized.1 (drawn stage sized.0))
    c.draw_frame.ensures.ok

pub returns-clause-err : goal.returns-clause-err
returns-clause-err c = IfErr-weaker c.draw_frame.result _ _ (λ cause why stage is playing.
    let sized = c.in_ok-take_size.ensures stage is playing in
    IsCauseOfStep-drawn stage c.args.size c.args.text.now c.args.puts.now c.args.terminal.now _ cause sized.1 (why stage sized.0))
    c.draw_frame.ensures.err
