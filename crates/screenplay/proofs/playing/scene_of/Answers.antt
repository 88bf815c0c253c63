use Rattle.screenplay.proofs.SceneLemmas.{IsSceneOf-made}
use Rattle.screenplay.proofs.playing.scene_of.Goals as goal

pub returns : goal.returns
returns c =
    rw c.viewport_area.ensures
    (IsSceneOf-made c.args.terminal.now c.in_ok-copied_rows.field-0 c.scrollback.result.now c.buffer.result.now
    c.in_ok-clone.field-0 c.buffer.ensures.plain c.scrollback.ensures.unmarked c.in_ok-clone.ensures.same
    (rw c.backend-backend.ensures at c.buffer.ensures.area)
    (rw c.backend-backend.ensures at c.buffer.ensures.value) c.in_ok-copied_rows.ensures
    (rw c.backend-backend.ensures at c.scrollback.ensures.looks))
