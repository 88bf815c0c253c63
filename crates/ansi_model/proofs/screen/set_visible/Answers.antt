use Rattle.std.proofs.Common.{true, false}
use Rattle.std.proofs.lemmas.Result.{on_ok_weaker}
use Rattle.ansi_model.proofs.{ScrollLemmas.turns-from, CallLemmas.cursor-visible}
use Rattle.ansi_model.proofs.screen.set_visible.Goals as goal

pub returns-then-visible : goal.returns-then-visible
returns-then-visible c = rw c.if-visible.true
    (on_ok_weaker c.show_cursor.result (λ does w h. turns-from w h _ _ _ _ does (cursor-visible w h true)) c.show_cursor.ensures)

pub returns-else-visible : goal.returns-else-visible
returns-else-visible c = rw c.if-visible.false
    (on_ok_weaker c.hide_cursor.result (λ does w h. turns-from w h _ _ _ _ does (cursor-visible w h false)) c.hide_cursor.ensures)
