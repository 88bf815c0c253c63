use Rattle.std.proofs.Common.{rules, ◌≡◌, ◌<◌, ◌+◌, ◌∙◌, ◌∷◌, None, length, drop, slice_index_or, arith, ap, sym, subst}
use Rattle.std.proofs.Common.{false, true}
use Rattle.ratatui_core.specs.{Buffer.IsReadyFrom, Text.LineData}
use Rattle.ratatui_core.proofs.WidgetLemmas.{within-then}
use Rattle.widget_boxes.proofs.BoxLemmas.{inside-within}
use Rattle.widget_paragraph.specs.Paragraphs.{cut_line, rows_of_lines}
use Rattle.widget_paragraph.proofs.RowsLemmas.{cut-next, cut-line-next}
use Rattle.widget_paragraph.proofs.paragraph.Paragraph.render_truncated.Goals as goal
use Rattle.ratatui_core.specs.Text.{EachSpanGrapheme}
use Rattle.ratatui_core.specs.Buffer.{IsShort}

pub render_cut-requires-clause-inside : goal.render_cut-requires-clause-inside
render_cut-requires-clause-inside c =
    inside-within c.args.part c.args.buf.now c.loop-k.buf c.requires.inside c.loop-k.invariant.within

pub loop-k-preserved : goal.loop-k-preserved
loop-k-preserved c =
    let i = c.loop-k.invariant in
    let row = cut_line c.args.self.now c.args.part.width c.in-Some.line.now in
    let rows = rows_of_lines None c.args.self.now c.args.part.width c.args.self.now.text.lines in
    let lt : c.args.self.now.scroll.y + c.loop-k.k < length c.args.self.now.text.lines = search rules in
    let at : c.in-Some.line.now ≡ slice_index_or c.args.self.now.text.lines
    (c.args.self.now.scroll.y + c.loop-k.k) c.in-Some.line.now = search rules in
    let next : drop (c.args.self.now.scroll.y + c.loop-k.k) rows ≡ row ∷ drop (c.args.self.now.scroll.y + (c.loop-k.k + 1)) rows =
    cut-line-next c.args.self.now c.args.part.width c.args.self.now.text.lines
    (c.args.self.now.scroll.y + c.loop-k.k) c.in-Some.line.now lt at ∙ ap (λ n. row ∷ drop n rows) (omega arith) in
    let place : c.args.part.y + c.loop-k.k + 1 ≡ c.args.part.y + (c.loop-k.k + 1) = omega arith in
    record {
      within = within-then c.args.part c.args.buf.now c.loop-k.buf c.render_cut.new.buf i.within c.render_cut.ensures.within;
      paints = cut-next c.args.part c.loop-k.k c.args.self.now.scroll.y row rows c.args.buf.now c.loop-k.buf c.render_cut.new.buf
          c.loop-k-test.true next i.paints c.in_ok-render_cut.ensures.ok;
      ready = λ from. subst (λ y. IsReadyFrom y c.render_cut.new.buf) place (c.in_ok-render_cut.ensures.ready (i.ready from));
    }

pub returns-in_err-render_cut-clause-short : goal.returns-in_err-render_cut-clause-short
returns-in_err-render_cut-clause-short c = λ all.
    let k = c.args.self.now.scroll.y + c.loop-k.k in
    let lt : k < length c.args.self.now.text.lines = search rules in
    let at : c.in-Some.line.now ≡ slice_index_or c.args.self.now.text.lines k c.in-Some.line.now = search rules in
    let no : false ≡ true = c.in_err-render_cut.ensures.short
    (subst (λ (l : LineData). EachSpanGrapheme IsShort l.spans) (sym at) (all k c.in-Some.line.now lt)) in
    absurd (cc)
