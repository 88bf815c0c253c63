use Rattle.std.proofs.Common.{◌≡◌, false, true, Err, subst}
use Rattle.rtui_drawing.specs.Drawings.{IsDone}
use Rattle.rtui_drawing.proofs.DrawingLemmas.{done-within, done-short}
use Rattle.widget_list.specs.Items.{marks_over}
use Rattle.widget_list.proofs.ItemLemmas.{item-within, item-shown, text-short, over-short}
use Rattle.widget_list.proofs.list.List.draw_item.Goals as goal

pub returns-in_err-draw_text-clause-within : goal.returns-in_err-draw_text-clause-within
returns-in_err-draw_text-clause-within c = done-within _ c.in_err-draw_text.ensures

pub returns-in_err-draw_text-clause-short : goal.returns-in_err-draw_text-clause-short
returns-in_err-draw_text-clause-short c = λ symbol text.
    let no : false ≡ true = done-short (Err c.in_err-draw_text.field-0.0)
    (text-short c.args.buf.now c.args.self.now c.args.mark c.args.item.now c.args.part text) c.in_err-draw_text.ensures in
    absurd (cc)

pub returns-clause-within : goal.returns-clause-within
returns-clause-within c =
    let marks = subst (λ n. IsDone (marks_over c.args.self.now c.args.is_selected c.args.mark n) c.args.part
    c.draw_marks_over.result c.highlight_if.new.buf c.draw_marks_over.new.buf) c.requires c.draw_marks_over.ensures in
    item-within c.draw_marks_over.result c.args.self.now c.args.is_selected c.args.mark c.args.item.now c.args.part c.args.buf.now
    c.draw_text.new.buf c.highlight_if.new.buf c.draw_marks_over.new.buf c.in_ok-draw_text.ensures.ok c.highlight_if.ensures marks

pub returns-clause-ok : goal.returns-clause-ok
returns-clause-ok c =
    let marks = subst (λ n. IsDone (marks_over c.args.self.now c.args.is_selected c.args.mark n) c.args.part
    c.draw_marks_over.result c.highlight_if.new.buf c.draw_marks_over.new.buf) c.requires c.draw_marks_over.ensures in
    item-shown c.draw_marks_over.result c.args.self.now c.args.is_selected c.args.mark c.args.item.now c.args.part c.args.buf.now
    c.draw_text.new.buf c.highlight_if.new.buf c.draw_marks_over.new.buf c.in_ok-draw_text.ensures.ok c.highlight_if.ensures marks

pub returns-clause-short : goal.returns-clause-short
returns-clause-short c = λ symbol text.
    done-short c.draw_marks_over.result
    (over-short c.highlight_if.new.buf c.args.self.now symbol c.args.is_selected c.args.mark c.args.part.height c.args.part)
    c.draw_marks_over.ensures
