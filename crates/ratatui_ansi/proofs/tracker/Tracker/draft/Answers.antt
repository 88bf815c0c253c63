use Rattle.std.proofs.Common.{◌∙◌, string_bytes, map, sym, subst, rules}
use Rattle.std.proofs.lemmas.{List.with_items_is, Result.IfOk-weaker}
use Rattle.ratatui_core.specs.Buffer.{update_by}
use Rattle.ratatui_ansi.specs.Inner.Draw.{SendsDraw}
use Rattle.ratatui_ansi.proofs.tracker.Tracker.draft.Goals as goal

pub returns-clause-ok : goal.returns-clause-ok
returns-clause-ok g c =
    let k = c.args.self.now in
    let out = string_bytes c.draw_cells.new.self.out.now in
    let copied = c.copy_from_slice.ensures.after ∙ c.as_slice.ensures.value in
    let drawn = rw copied at c.draw_cells.ensures.drawn in
    IfOk-weaker c.draw_cells.result _ _ (λ after e.
    let us = map (update_by g.C.AsCell.cell) e.0 in
    let drafted = subst (SendsDraw k.size.width k.size.height (string_bytes k.out) k.cursor k.written k.continuations.items us out
    after.0 after.1) (sym (with_items_is k.draft _ (search rules) ∙ search rules)) e.2.sends in
    record { items = e.0; drained = e.1; drafts = drafted; sendable = e.2.sendable }) drawn
