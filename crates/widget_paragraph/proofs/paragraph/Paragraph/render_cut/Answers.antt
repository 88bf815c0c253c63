use Rattle.std.proofs.Common.{All, sym, subst}
use Rattle.ratatui_core.specs.{Buffer.IsShort, Text.GraphemeData, Style.patch}
use Rattle.widget_paragraph.specs.Reflow.{columns_taken, cut_row}
use Rattle.widget_paragraph.specs.{Paragraphs.graphemes_of}
use Rattle.widget_paragraph.proofs.{RowsLemmas.cut-fits, RowsLemmas.indent-fits, CutLemmas.short-cut, CutLemmas.short-line}
use Rattle.widget_paragraph.proofs.paragraph.Paragraph.render_cut.Goals as goal

pub render_cut_row-requires-clause-fits : goal.render_cut_row-requires-clause-fits
render_cut_row-requires-clause-fits c =
    let gs = graphemes_of c.args.self.now c.args.line.now in
    let row = cut_row c.args.part.width c.columns_scrolled-columns.result gs in
    rw (c.cut.ensures.left, c.cut_indent-start.ensures, ← c.columns_scrolled-columns.ensures)
    (indent-fits c.unwrap_or-alignment.result (columns_taken row) c.args.part.width
    (cut-fits c.args.part.width c.columns_scrolled-columns.result gs))

pub returns-clause-short : goal.returns-clause-short
returns-clause-short c = λ short.
    let gs = graphemes_of c.args.self.now c.args.line.now in
    c.render_cut_row.ensures.short (subst (All (λ (d : GraphemeData). IsShort d.symbol)) (sym c.cut.ensures.left)
    (short-cut c.args.part.width c.columns_scrolled-columns.result gs
    (short-line (patch c.args.self.now.text.style c.args.line.now.style) c.args.line.now.spans short)))
