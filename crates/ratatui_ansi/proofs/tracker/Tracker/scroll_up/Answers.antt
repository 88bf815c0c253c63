use Rattle.std.proofs.Common.{◌≡◌, ◌∙◌, ap, length, refl}
use Rattle.std.proofs.lemmas.List.{with_items_is}
use Rattle.ratatui_core.specs.Backend.{scrolling_up}
use Rattle.ratatui_ansi.proofs.TrackLemmas.{collected, Turns-then, call-from, scroll-kept}
use Rattle.ratatui_ansi.proofs.tracker.Tracker.scroll_up.Goals as goal

pub returns-clause-ok : goal.returns-clause-ok
returns-clause-ok c =
    let k = c.args.self.now in
    let w = k.size.width in
    let h = k.size.height in
    let lent = c.as_mut_slice.ensures in
    let flags = c.raise_flags.new.flags in
    let same = with_items_is k.continuations flags (c.raise_flags.auto.flags ∙ lent.len) in
    let count : length flags ≡ length k.continuations.items = c.raise_flags.auto.flags ∙ ap length lent.value in
    let wide = c.requires.fits.columns in
    collected k _ k.cursor flags c.requires refl same count (λ p q moved. moved.visible)
    (call-from w h _ _ k.cursor k.cursor k.continuations.items flags _ _
    (Turns-then w h _ _ _ _ _ (c.in_ok-scroll_region_up.ensures w wide)
    (c.in_ok-set_cursor_position.ensures w h wide c.requires.fits.rows))
    (λ s u ready at continuations both. scroll-kept w h k.cursor k.continuations.items flags c.requires.column c.requires.row s u
    ready at scrolling_up _ c.args.region.start c.args.region.end c.args.n
    (rw lent.value at c.raise_flags.ensures) continuations both))
