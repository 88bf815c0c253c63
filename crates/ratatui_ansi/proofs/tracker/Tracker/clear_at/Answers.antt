use Rattle.std.proofs.Common.{◌≡◌, ◌∙◌, ap, length, refl}
use Rattle.std.proofs.lemmas.List.{with_items_is}
use Rattle.ratatui_core.specs.Backend.{Screen}
use Rattle.ansi_model.specs.Emulator.{cursor_moved, erased}
use Rattle.ansi_model.proofs.RegionLemmas.{Does-then}
use Rattle.ratatui_ansi.proofs.TrackLemmas.{collected, call-does, part-kept}
use Rattle.ratatui_ansi.proofs.tracker.Tracker.clear_at.Goals as goal

pub returns-clause-ok : goal.returns-clause-ok
returns-clause-ok c =
    let k = c.args.self.now in
    let w = k.size.width in
    let h = k.size.height in
    let lent = c.as_mut_slice.ensures in
    let flags = c.clear_part_flags.new.flags in
    let same = with_items_is k.continuations flags (c.clear_part_flags.auto.flags ∙ lent.len) in
    let count : length flags ≡ length k.continuations.items = c.clear_part_flags.auto.flags ∙ ap length lent.value in
    let x = c.args.x in
    let y = c.args.y in
    let kind = c.args.clear_type in
    let place = k.cursor in
    collected k _ place flags c.requires.tracker refl same count (λ p q cleared. ap (λ (s : Screen). s.visible) cleared.rest)
    (call-does w h _ _ place place k.continuations.items flags
    (λ t. cursor_moved place.x place.y (erased kind (cursor_moved x y t))) _
    (Does-then _ _ _ (λ t. erased kind (cursor_moved x y t)) (cursor_moved place.x place.y)
    (Does-then _ _ _ (cursor_moved x y) (erased kind) c.in_ok-move_to.ensures.moves c.in_ok-erase.ensures (λ t. refl))
    c.in_ok-move_to-2.ensures.moves (λ t. refl))
    (part-kept w h x y kind place k.continuations.items flags c.requires.at_column c.requires.at_row c.requires.tracker.column
    c.requires.tracker.row c.requires.uncut c.requires.sure (rw lent.value at c.clear_part_flags.ensures)))
