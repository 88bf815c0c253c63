use Rattle.std.proofs.Common.{sym, ◌∙◌}
use Rattle.rtui_drawing.proofs.DrawingLemmas.{done-within}
use Rattle.widget_table.proofs.BodyLemmas.{body-none, body-made, body-within}
use Rattle.widget_table.proofs.table.Table.draw_body.Goals as goal

pub returns-then-is_empty-clause-ok : goal.returns-then-is_empty-clause-ok
returns-then-is_empty-clause-ok c =
    body-none c.args.self.now c.args.state c.args.symbol_columns c.args.columns.now c.args.place c.args.area c.args.buf.now
    (rw c.as_slice.ensures.value at (sym c.is_empty.ensures ∙ c.if-is_empty.true))

pub returns-in_err-row-clause-within : goal.returns-in_err-row-clause-within
returns-in_err-row-clause-within c = done-within _ c.in_err-row.ensures.done

pub returns-clause-ok : goal.returns-clause-ok
returns-clause-ok c =
    body-made c.args.self.now c.args.state c.args.symbol_columns c.args.columns.now c.args.place c.args.area c.args.buf.now
    c.draw_rows.new.buf c.draw_highlights.new.buf
    (rw c.as_slice.ensures.value at (sym c.is_empty.ensures ∙ c.if-is_empty.false)) c.in_ok-row.ensures.done.ok
    (rw (c.in_ok-row.ensures.selected, c.selected_column-column.ensures) at c.draw_highlights.ensures)

pub returns-clause-within : goal.returns-clause-within
returns-clause-within c =
    body-within c.args.self.now c.args.state c.args.symbol_columns c.args.columns.now c.args.place c.args.area c.args.buf.now
    c.draw_highlights.new.buf (returns-clause-ok c)
