use Rattle.std.proofs.Common.{refl, sym, ap, ◌∙◌}
use Rattle.std.proofs.lemmas.Result.{on_ok_weaker}
use Rattle.ansi_model.specs.Emulator.{cursor_moved, rested, line_fed, lines_inserted}
use Rattle.ansi_model.proofs.{ReadLemmas.line_fed-rested, RegionLemmas.Does-then}
use Rattle.ansi_model.proofs.screen.feed_and_lower.Goals as goal

pub returns : goal.returns
returns c =
    on_ok_weaker c.insert_lines.result (λ does.
    Does-then _ _ _ (λ t. cursor_moved 0 0 (line_fed (cursor_moved 0 1 t))) (lines_inserted 1)
    (Does-then _ _ _ (λ t. line_fed (cursor_moved 0 1 t)) (cursor_moved 0 0)
    (Does-then _ _ _ (cursor_moved 0 1) line_fed c.in_ok-move_to.ensures.moves c.in_ok-line_feed.ensures (λ t. refl))
    c.in_ok-move_to-2.ensures.moves (λ t. sym (line_fed-rested (cursor_moved 0 1 (rested t)))))
    does (λ t. let e = line_fed-rested (cursor_moved 0 1 (rested t)) in ap (λ v. rested (cursor_moved 0 0 v)) e
    ∙ sym (ap (cursor_moved 0 0) e))) c.insert_lines.ensures
