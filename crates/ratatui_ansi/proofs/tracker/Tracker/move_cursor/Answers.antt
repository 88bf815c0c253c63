use Rattle.std.proofs.Common.{refl, ap}
use Rattle.ratatui_core.specs.Backend.{Screen}
use Rattle.ratatui_ansi.proofs.TrackLemmas.{collected, call-from, cursor-kept}
use Rattle.ratatui_ansi.proofs.tracker.Tracker.move_cursor.Goals as goal

pub returns-clause-ok : goal.returns-clause-ok
returns-clause-ok c =
    let k = c.args.self.now in
    let w = k.size.width in
    let h = k.size.height in
    let flags = k.continuations.items in
    rw (c.min.ensures, c.min-2.ensures)
    (collected k _ _ flags c.requires refl refl refl (λ p q e. ap (λ (s : Screen). s.visible) e)
    (call-from w h _ _ k.cursor _ flags flags _ _
    (c.in_ok-set_cursor_position.ensures w h c.requires.fits.columns c.requires.fits.rows)
    (λ s t ready at continuations became. cursor-kept w h c.args.position.x c.args.position.y flags s t ready continuations
    became)))
