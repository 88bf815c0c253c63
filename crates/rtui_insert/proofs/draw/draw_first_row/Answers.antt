use Rattle.std.proofs.Common.{◌≡◌, ◌∙◌, length, ap, refl, arith, inl, inr}
use Rattle.std.proofs.lemmas.{Grind.common_steps, List.length-replicate, Result.on_ok_weaker, Result.on_err_weaker}
use Rattle.rtui_geometry.specs.declared.rect.Rect.{Rect}
use Rattle.rtui_cell.specs.Cell.{empty_cell}
use Rattle.rtui_buffer.specs.BufferData.{with_cells, area_size}
use Rattle.rtui_buffer.proofs.EmptyLemmas.{cell-empty}
use Rattle.rtui_backend.proofs.FailureLemmas.{fails_weaker}
use Rattle.rtui_insert.proofs.MarkLemmas.{cells_written, marked_first, emptied_again}
use Rattle.rtui_insert.proofs.draw.draw_first_row.Goals as goal

pub mark_skipped-requires-clause-empty : goal.mark_skipped-requires-clause-empty
mark_skipped-requires-clause-empty g c = λ k k_in. rw (c.cells_mut.ensures.cells, c.requires.blank.empty.cells)
    (cell-empty (area_size c.args.blank.now.area) k)

pub returns-clause-ok : goal.returns-clause-ok
returns-clause-ok g c =
    let columns : c.from-columns.result ≡ c.args.blank.now.area.width = c.from-columns.ensures
    ∙ ap (λ (r : Rect). r.width) c.area.ensures.area ∙ c.requires.blank.width in
    let size : length c.mark_skipped.new.cells ≡ length c.args.blank.now.cells = grind (arith, common_steps) in
    let marked = c.mark_skipped.ensures in
    on_ok_weaker c.draw_rows-drawn.result (marked_first c.requires.blank _ _ columns size marked.skipped marked.narrow _ _)
    c.draw_rows-drawn.ensures.ok

pub returns-clause-err : goal.returns-clause-err
returns-clause-err g c =
    let columns : c.from-columns.result ≡ c.args.blank.now.area.width = c.from-columns.ensures
    ∙ ap (λ (r : Rect). r.width) c.area.ensures.area ∙ c.requires.blank.width in
    let size : length c.mark_skipped.new.cells ≡ length c.args.blank.now.cells = grind (arith, common_steps) in
    let marked = c.mark_skipped.ensures in
    on_err_weaker c.draw_rows-drawn.result (fails_weaker (λ b drew. elim drew [
      | inl same ↦ inl same
      | inr drawn ↦ inr (marked_first c.requires.blank _ _ columns size marked.skipped marked.narrow _ _ drawn)
    ])) c.draw_rows-drawn.ensures.err

pub returns-clause-blank : goal.returns-clause-blank
returns-clause-blank g c =
    let over = c.args.blank.now.area in
    let old = c.args.blank.now in
    let marked = c.mark_skipped.new.cells in
    let size : length marked ≡ length old.cells = grind (arith, common_steps) in
    let mid = with_cells old marked in
    let same : mid.cells ≡ marked = cells_written old marked size in
    let count : length c.fill.new.items ≡ length mid.cells = grind (arith, common_steps) in
    let whole : length c.fill.new.items ≡ area_size over = count ∙ ap length same ∙ size ∙ ap length c.requires.blank.empty.cells
    ∙ length-replicate (area_size over) empty_cell in
    emptied_again over old (with_cells mid c.fill.new.items) marked c.fill.new.items c.from-columns.result c.requires.blank.empty
    refl (cells_written mid c.fill.new.items count) whole
    (rw c.cells_mut.ensures.cells at c.mark_skipped.ensures.rest) (rw (c.cells_mut-2.ensures.cells, same) at c.fill.ensures)
