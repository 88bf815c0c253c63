use Rattle.std.proofs.Common.{refl}
use Rattle.widget_area.proofs.RowLemmas.{grapheme-drawn}
use Rattle.widget_area.proofs.widget.TextAreaWidget.draw_grapheme.Goals as goal

pub returns-clause-done : goal.returns-clause-done
returns-clause-done c =
    grapheme-drawn c.args.self.now c.args.plan.now c.args.row c.of-part.result c.of-columns.result c.args.at.column
    c.args.at.byte _ _ c.args.grapheme.now _ _ c.new.result c.write_if.result c.args.buf.now c.put_style_if.new.buf
    c.write_if.new.buf c.in_view-x.ensures.column c.in_view-x.ensures.shown c.is_selected-is_selected.ensures refl c.new.ensures
    c.of-part.ensures c.of-columns.ensures c.put_style_if.ensures.drawn c.write_if.ensures.done
