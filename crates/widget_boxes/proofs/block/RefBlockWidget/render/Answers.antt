use Rattle.std.proofs.Common.{rules, sym, subst, ◌∙◌}
use Rattle.widget_boxes.specs.Boxes.{AreShortTitles}
use Rattle.ratatui_core.proofs.BufferLemmas.{on-ok}
use Rattle.widget_boxes.proofs.BoxLemmas.{block-none, block-within, block-short, block-renders, titled-within, titles-same}
use Rattle.widget_boxes.proofs.TitleLemmas.{titles-none, no-titles}
use Rattle.widget_boxes.proofs.block.RefBlockWidget.render.Goals as goal

pub returns-in_default-clause-ok : goal.returns-in_default-clause-ok
returns-in_default-clause-ok c = block-none c.args.self.now c.args.area c.args.buf.now c.in_default.ensures

pub returns-in_err-render_borders-clause-err : goal.returns-in_err-render_borders-clause-err
returns-in_err-render_borders-clause-err c =
    let by = block-within c.args.self.now c.args.area c.in-Some.part c.args.buf.now c.set_style.new.self c.render_borders.new.buf
    c.in-Some.ensures c.set_style.ensures c.render_borders.result c.render_borders.ensures in
    search rules

pub returns-in_err-render_borders-clause-short : goal.returns-in_err-render_borders-clause-short
returns-in_err-render_borders-clause-short c = λ short.
    let ok = block-short c.args.self.now c.args.area c.in-Some.part c.args.buf.now c.set_style.new.self c.render_borders.new.buf
    c.in-Some.ensures c.set_style.ensures c.render_borders.result c.render_borders.ensures short in
    search rules

pub returns-then-is_empty-clause-ok : goal.returns-then-is_empty-clause-ok
returns-then-is_empty-clause-ok c =
    block-renders c.args.self.now c.args.area c.in-Some.part c.args.buf.now c.set_style.new.self c.render_borders.new.buf
    c.in-Some.ensures c.set_style.ensures c.in_ok-render_borders.field-0 c.render_borders.new.buf
    c.in_ok-render_borders.ensures (titles-same c.args.self.now c.in-Some.part c.render_borders.new.buf)
    (titles-none c.args.self.now c.in-Some.part c.render_borders.new.buf (no-titles c.args.self.now.titles.items
    (rw c.as_slice.ensures.value at (sym c.is_empty.ensures ∙ c.if-is_empty.true))))

pub returns-clause-ok : goal.returns-clause-ok
returns-clause-ok c =
    on-ok c.render_titles.result
    (block-renders c.args.self.now c.args.area c.in-Some.part c.args.buf.now c.set_style.new.self c.render_borders.new.buf
    c.in-Some.ensures c.set_style.ensures c.in_ok-render_borders.field-0 c.render_titles.new.buf
    c.in_ok-render_borders.ensures c.render_titles.ensures.keeps)
    c.render_titles.ensures.ok

pub returns-clause-err : goal.returns-clause-err
returns-clause-err c =
    let by = titled-within c.args.self.now c.args.area c.in-Some.part c.args.buf.now c.set_style.new.self c.render_borders.new.buf
    c.in-Some.ensures c.set_style.ensures c.render_borders.result c.render_titles.new.buf
    c.render_borders.ensures c.render_titles.ensures.keeps in
    search rules

pub returns-clause-short : goal.returns-clause-short
returns-clause-short c = λ short. c.render_titles.ensures.short
    (subst (AreShortTitles c.args.self.now) (sym c.in-Some.ensures.value) short.titles)
