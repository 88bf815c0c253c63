use Rattle.std.proofs.Common.{rules}
use Rattle.std.proofs.lemmas.Result.{on_ok_weaker}
use Rattle.screenplay.proofs.PlayLemmas.{Plays-frame}
use Rattle.screenplay.proofs.playing.draw_frame.Goals as goal

pub returns-clause-ok : goal.returns-clause-ok
returns-clause-ok c = on_ok_weaker c.apply.result (λ applied stage playing.
    let made = rw c.current_buffer_mut.ensures.value at c.in_ok-paint.ensures.painted in
    Plays-frame stage c.args.text.now c.args.puts.now _ c.args.terminal.now _ playing
    (made c.args.terminal.now.viewport_area playing.rest.current) (search rules) applied) c.apply.ensures.ok
