use Rattle.std.proofs.Common.{sym, subst, string_bytes, true, false}
use Rattle.ansi_model.specs.{Sends.Performs, Emulator.holding}
use Rattle.ratatui_ansi.proofs.UpdateLemmas.{update-drawn, update-within}
use Rattle.ansi_model.proofs.PlaceLemmas.{each-held}
use Rattle.ratatui_ansi.proofs.tracker.Tracker.draft_update.Goals as goal

pub returns-clause-ok : goal.returns-clause-ok
returns-clause-ok g c =
    let old = string_bytes c.args.self.now.out in
    let drawn = string_bytes c.draft.new.self.out in
    let opens = subst (λ xs. Performs old xs (holding true)) (sym c.in_ok-push_str.ensures.bytes) (c.update_begin.ensures old) in
    let closes = subst (λ xs. Performs drawn xs (holding false)) (sym c.in_ok-push_str-2.ensures.bytes)
    (c.update_end.ensures drawn) in
    let d = c.in_ok-after.ensures.ok in
    record {
      items = d.items;
      drained = d.drained;
      drafts = update-drawn opens d.drafts closes;
      sendable = d.sendable;
    }

pub returns-clause-within : goal.returns-clause-within
returns-clause-within g c =
    let old = string_bytes c.args.self.now.out in
    let drawn = string_bytes c.draft.new.self.out in
    let opens = subst (λ xs. Performs old xs (holding true)) (sym c.in_ok-push_str.ensures.bytes) (c.update_begin.ensures old) in
    let closes = subst (λ xs. Performs drawn xs (holding false)) (sym c.in_ok-push_str-2.ensures.bytes)
    (c.update_end.ensures drawn) in
    update-within opens c.in_ok-after.ensures.ok.drafts closes

pub returns-clause-placed : goal.returns-clause-placed
returns-clause-placed g c =
    let old = string_bytes c.args.self.now.out in
    let drawn = string_bytes c.draft.new.self.out in
    let opens = subst (λ xs. Performs old xs (holding true)) (sym c.in_ok-push_str.ensures.bytes) (c.update_begin.ensures old) in
    let closes = subst (λ xs. Performs drawn xs (holding false)) (sym c.in_ok-push_str-2.ensures.bytes)
    (c.update_end.ensures drawn) in
    λ wide. each-held opens (c.in_ok-after.ensures.placed wide) closes
