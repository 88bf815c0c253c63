use Rattle.std.proofs.Common.{rules, ◌-◌}
use Rattle.ratatui_core.specs.Style.{new_style}
use Rattle.ratatui_core.specs.Buffer.{AreShort, text_pieces}
use Rattle.widget_field.proofs.{PaintLemmas.never, ShownLemmas.view-rest, ShownLemmas.view-short}
use Rattle.widget_field.proofs.painting.render_parts.Goals as goal

pub returns-in_err-column-clause-short : goal.returns-in_err-column-clause-short
returns-in_err-column-clause-short c = λ short behind.
    let front : AreShort (text_pieces (c.args.part.width - 1) c.new.result c.range_from-front.result.now) =
    rw (c.range_from-front.ensures.value, c.new.ensures)
    (view-short _ _ _ _ _ c.view_start-start.ensures.view new_style c.utf8.text short
    (c.args.part.width - 1)) in
    never (c.in_err-column.ensures.short front)

pub returns-clause-ok : goal.returns-clause-ok
returns-clause-ok c = record {
  view = c.view_start-start.ensures.view;
  shown = view-rest _ _ _ _ _ c.view_start-start.ensures.view c.utf8.text;
  cursor = search rules;
  in_area = search rules;
  between = c.paint_text.new.buf;
  front = search rules;
  back = search rules;
}
