use Rattle.std.proofs.Common.{◌≡◌, ◌∙◌, ap, length, refl}
use Rattle.std.proofs.lemmas.List.{with_items_is}
use Rattle.ratatui_core.specs.Backend.{Screen}
use Rattle.ansi_model.specs.Emulator.{columns_moved}
use Rattle.ansi_model.proofs.CallLemmas.{emptying}
use Rattle.ratatui_ansi.proofs.TrackLemmas.{collected, call-from, emptied-kept}
use Rattle.ratatui_ansi.proofs.tracker.Tracker.clear_all.Goals as goal

pub returns-clause-ok : goal.returns-clause-ok
returns-clause-ok c =
    let k = c.args.self.now in
    let w = k.size.width in
    let h = k.size.height in
    let lent = c.as_mut_slice.ensures in
    let flags = c.clear_flags.new.flags in
    let same = with_items_is k.continuations flags (c.clear_flags.auto.flags ∙ lent.len) in
    let count : length flags ≡ length k.continuations.items = c.clear_flags.auto.flags ∙ ap length lent.value in
    let cleared = rw lent.value at c.clear_flags.ensures in
    collected k _ k.cursor flags c.requires refl same count (λ p q cleared. ap (λ (s : Screen). s.visible) cleared.rest)
    (call-from w h _ _ k.cursor k.cursor k.continuations.items flags _ _
    (c.in_ok-clear_screen.ensures c.requires.fits.columns c.requires.fits.rows)
    (λ s t ready at continuations became. emptied-kept w h k.cursor k.continuations.items flags s t
    (columns_moved (emptying h) s.columns) at (cleared w h s.columns continuations) became))
