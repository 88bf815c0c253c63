use Rattle.std.proofs.Common.{rules, ◌≡◌, ◌∙◌, IfOk, filter, ap, subst}
use Rattle.widget_paragraph.specs.{Inner.left_of, Reflow.fits_row, Reflow.broken_rows, Paragraphs.alignment_of}
use Rattle.widget_paragraph.specs.{Paragraphs.graphemes_of, Paragraphs.aligned_rows}
use Rattle.widget_paragraph.specs.Inner.{PaintsOn}
use Rattle.widget_paragraph.proofs.RowsLemmas.{rows-of-line, fit-of-line}
use Rattle.widget_paragraph.proofs.paragraph.Paragraph.render_broken.Goals as goal

pub render_line-requires-clause-fit : goal.render_line-requires-clause-fit
render_line-requires-clause-fit c = fit-of-line c.args.part.width (left_of c.new-ahead.result) _ c.new-ahead.ensures.left

pub returns-clause-ok : goal.returns-clause-ok
returns-clause-ok c =
    let p = c.args.self.now in
    let alignment : c.unwrap_or-alignment.result ≡ alignment_of p c.args.line.now = search rules in
    let fits : left_of c.new-ahead.result ≡ filter (fits_row c.args.part.width) (graphemes_of p c.args.line.now) = search rules in
    let rows = ap (λ t. aligned_rows c.unwrap_or-alignment.result (broken_rows c.args.part.width t (left_of c.new-ahead.result)))
    c.new-ahead.ensures.trim
    ∙ rows-of-line p c.args.part.width c.args.wrap c.args.line.now c.unwrap_or-alignment.result
    (left_of c.new-ahead.result) alignment fits in
    subst (λ rows. IfOk c.render_line.result (λ next. PaintsOn c.args.part c.args.filling next rows
    c.args.buf.now c.render_line.new.buf)) rows c.render_line.ensures.ok
