use Rattle.std.proofs.Common.{◌+◌, ◌-◌, ◌≡◌, ◌∙◌, ap, length, min, refl, arith}
use Rattle.std.proofs.lemmas.List.{with_items_is}
use Rattle.ratatui_ansi.proofs.TrackLemmas.{collected, call-from, append-kept}
use Rattle.ratatui_ansi.proofs.tracker.Tracker.append.Goals as goal

pub returns-clause-ok : goal.returns-clause-ok
returns-clause-ok c =
    let k = c.args.self.now in
    let w = k.size.width in
    let h = k.size.height in
    let lent = c.as_mut_slice-flags.ensures in
    let flags = c.raise_flags.new.flags in
    let same = with_items_is k.continuations flags (c.raise_flags.auto.flags ∙ lent.len) in
    let count : length flags ≡ length k.continuations.items = c.raise_flags.auto.flags ∙ ap length lent.value in
    let row : c.min.result ≡ min (k.cursor.y + c.args.n) (h - 1) = omega arith in
    rw row
    (collected k _ _ flags c.requires refl same count (λ p q appended. appended.scrolled.visible)
    (call-from w h _ _ k.cursor _ k.continuations.items flags _ _
    (c.in_ok-append_lines.ensures w h c.requires.fits.columns c.requires.fits.rows)
    (λ s t ready at continuations became. append-kept w h c.args.n k.cursor k.continuations.items flags s t ready
    at c.requires.row (rw (c.saturating_sub.ensures, lent.value) at c.raise_flags.ensures) continuations became)))
