use Rattle.std.proofs.Common.{◌++◌, ap, sym, ◌∙◌, subst}
use Rattle.std.specs.Io.KnownBytes.{Appends}
use Rattle.ansi_model.specs.{Endings.left_below, Endings.ClosesAlternate, Sends.Performs}
use Rattle.ratatui_ansi.specs.Settings.{UndoesFirst}
use Rattle.ratatui_ansi.proofs.{BackendLemmas.brings-back, HeadlineLemmas.read-by-all, HeadlineLemmas.leaves-terminal}
use Rattle.ratatui_ansi.proofs.backend.AnsiBackend.leave.Goals as goal

pub returns-clause-read : goal.returns-clause-read
returns-clause-read g c =
    let kept = c.self.invariant.0 in
    rw (← c.self.view_is) (λ whole. read-by-all _ (kept.alike whole) (kept.awaiting whole).phase (kept.awaiting whole).ready)

pub returns-clause-left : goal.returns-clause-left
returns-clause-left g c =
    let b = c.self.inside in
    let text = c.as_str.result.now in
    let contents = g.W.Write.contents c.flush.new.self.writer in
    rw (← c.self.view_is) (λ whole main.
    let mended = c.mend.ensures.works whole in
    let before = ap (λ s. s.before) c.flush.ensures.sent ∙ c.send.ensures.before ∙ ap (λ s. s.sent.before) mended in
    let bytes = ap (λ s. s.bytes) c.flush.ensures.sent ∙ c.in_ok-send.ensures.all.sent ∙ ap (λ s. s.sent.bytes ++ text) mended in
    let all = (c.flush.ensures.tied (c.in_ok-send.ensures.all.tied (rw mended (c.self.invariant.1 whole)))).appends in
    let kept = c.self.invariant.0 in
    let sent = b.sender.sent.bytes in
    let leaves : Performs sent (sent ++ text) (left_below b.tracker.size.height) =
    subst (λ xs. Performs sent (sent ++ xs) (left_below b.tracker.size.height)) (sym c.as_str.ensures.value)
    (c.farewell-last.ensures.left main sent) in
    let undoes : UndoesFirst b.settings sent (sent ++ text) =
    subst (λ xs. UndoesFirst b.settings sent (sent ++ xs)) (sym c.as_str.ensures.value) (c.farewell-last.ensures.undoes sent) in
    leaves-terminal _ contents (b.sender.sent.bytes ++ text) undoes leaves
    (read-by-all _ (kept.alike whole) (kept.awaiting whole).phase (kept.awaiting whole).ready)
    kept.tracker.columns kept.tracker.rows
    (subst (λ xs. Appends b.sender.sent.before contents xs) bytes (subst
    (λ known. Appends known contents c.flush.new.self.sent.bytes) before all)))

pub returns-clause-back : goal.returns-clause-back
returns-clause-back g c =
    let b = c.self.inside in
    let text = c.as_str.result.now in
    let contents = g.W.Write.contents c.flush.new.self.writer in
    rw (← c.self.view_is) (λ whole alternate.
    let mended = c.mend.ensures.works whole in
    let before = ap (λ s. s.before) c.flush.ensures.sent ∙ c.send.ensures.before ∙ ap (λ s. s.sent.before) mended in
    let bytes = ap (λ s. s.bytes) c.flush.ensures.sent ∙ c.in_ok-send.ensures.all.sent ∙ ap (λ s. s.sent.bytes ++ text) mended in
    let all = (c.flush.ensures.tied (c.in_ok-send.ensures.all.tied (rw mended (c.self.invariant.1 whole)))).appends in
    let kept = c.self.invariant.0 in
    let sent = b.sender.sent.bytes in
    let closes : ClosesAlternate sent (sent ++ text) =
    subst (λ xs. ClosesAlternate sent (sent ++ xs)) (sym c.as_str.ensures.value) (c.farewell-last.ensures.back alternate sent) in
    let undoes : UndoesFirst b.settings sent (sent ++ text) =
    subst (λ xs. UndoesFirst b.settings sent (sent ++ xs)) (sym c.as_str.ensures.value) (c.farewell-last.ensures.undoes sent) in
    brings-back _ contents (b.sender.sent.bytes ++ text) closes undoes
    (kept.alike whole) (kept.awaiting whole).phase
    (subst (λ xs. Appends b.sender.sent.before contents xs) bytes (subst
    (λ known. Appends known contents c.flush.new.self.sent.bytes) before all)))
