use Rattle.std.proofs.Common.{◌-◌, Some, arith}
use Rattle.ratatui_core.proofs.WidgetLemmas.{within-then}
use Rattle.widget_boxes.proofs.BoxLemmas.{inside-within}
use Rattle.widget_paragraph.specs.Paragraphs.{broken_line, rows_of_lines}
use Rattle.widget_paragraph.proofs.RowsLemmas.{rows-line, rows-done, lines-next, lines-none, shown-none, shown-full}
use Rattle.widget_paragraph.proofs.paragraph.Paragraph.render_wrapped.Goals as goal

pub returns-then-filling-part-clause-ok : goal.returns-then-filling-part-clause-ok
returns-then-filling-part-clause-ok c =
    rows-done c.args.part c.loop-line.filling c.args.self.now.scroll.y _
    (rows_of_lines (Some c.args.wrap) c.args.self.now c.args.part.width c.args.self.now.text.lines) c.args.buf.now
    c.loop-line.buf
    (shown-full (c.args.part.height - c.loop-line.filling.row) c.loop-line.filling.skip _ (let e = c.if-filling-part.true in
    omega arith)) c.loop-line.invariant.paints

pub render_broken-requires-clause-inside : goal.render_broken-requires-clause-inside
render_broken-requires-clause-inside c =
    inside-within c.args.part c.args.buf.now c.loop-line.buf c.requires.inside c.loop-line.invariant.within

pub loop-line-preserved : goal.loop-line-preserved
loop-line-preserved c =
    let i = c.loop-line.invariant in
    record {
      row = c.in_ok-filling.ensures.row;
      within = within-then c.args.part c.args.buf.now c.loop-line.buf c.render_broken.new.buf i.within c.in_ok-filling.ensures.within;
      paints = rows-line c.args.part c.loop-line.filling c.in_ok-filling.filling
          (record { skip = c.args.self.now.scroll.y; row = 0 }) (broken_line c.args.self.now c.args.part.width c.args.wrap c.line-item.result) _ _ _
          c.args.buf.now c.loop-line.buf c.render_broken.new.buf
          (lines-next c.args.self.now c.args.part.width c.args.wrap c.as_slice-line-items.result.now c.loop-line.line-index
          c.line-item.result c.loop-line-test.true c.line-item.is) i.paints c.in_ok-filling.ensures.ok;
      ready = λ from. c.in_ok-filling.ensures.ready (i.ready from);
    }

pub returns-clause-ok : goal.returns-clause-ok
returns-clause-ok c =
    rows-done c.args.part c.loop-line.filling c.args.self.now.scroll.y _
    (rows_of_lines (Some c.args.wrap) c.args.self.now c.args.part.width c.args.self.now.text.lines) c.args.buf.now
    c.loop-line.buf
    (shown-none (c.args.part.height - c.loop-line.filling.row) c.loop-line.filling.skip _
    (lines-none c.args.self.now c.args.part.width c.args.wrap c.as_slice-line-items.result.now c.loop-line.line-index
    c.loop-line-test.false)) c.loop-line.invariant.paints
