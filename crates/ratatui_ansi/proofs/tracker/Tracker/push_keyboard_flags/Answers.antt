use Rattle.std.proofs.Common.{refl, ap}
use Rattle.ratatui_core.specs.Backend.{Screen}
use Rattle.std.proofs.lemmas.Result.{on_ok_weaker}
use Rattle.ratatui_ansi.proofs.TrackLemmas.{collected, call-from, still-kept}
use Rattle.ratatui_ansi.proofs.tracker.Tracker.push_keyboard_flags.Goals as goal

pub returns-clause-ok : goal.returns-clause-ok
returns-clause-ok c =
    let k = c.args.self.now in
    let w = k.size.width in
    let h = k.size.height in
    let flags = k.continuations.items in
    on_ok_weaker c.push_keyboard_flags.result (λ turns.
    collected k _ k.cursor flags c.requires refl refl refl (λ p q e. ap (λ (s : Screen). s.visible) e)
    (call-from w h _ _ k.cursor k.cursor flags flags _ _ (turns w h) (still-kept w h k.cursor flags)))
    c.push_keyboard_flags.ensures.turns
