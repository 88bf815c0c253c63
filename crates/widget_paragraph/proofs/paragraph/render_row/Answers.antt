use Rattle.std.proofs.Common.{◌≡◌, ◌+◌, ◌≤◌, ◌∙◌, ap, ap₂, subst, arith}
use Rattle.ratatui_core.specs.Buffer.{IsReadyAt}
use Rattle.ratatui_core.proofs.{BufferLemmas.within-same, WidgetLemmas.within-then, BufferLemmas.ready-row}
use Rattle.widget_boxes.proofs.{BoxLemmas.inside-within, PaintLemmas.part-has_row, PaintLemmas.part-right}
use Rattle.widget_paragraph.specs.{Reflow.columns_taken, Reflow.grapheme_columns}
use Rattle.widget_paragraph.specs.Paragraphs.{PaintsGrapheme, PaintsGraphemes}
use Rattle.widget_paragraph.specs.Inner.{grapheme_in}
use Rattle.widget_paragraph.proofs.RowsLemmas.{indent-fits, grapheme-turn, row-turn}
use Rattle.widget_paragraph.proofs.paragraph.render_row.Goals as goal

pub put_grapheme-requires-clause-inside : goal.put_grapheme-requires-clause-inside
put_grapheme-requires-clause-inside c =
    inside-within c.args.part c.args.buf.now c.loop-grapheme.buf c.requires.inside c.loop-grapheme.invariant.within

pub loop-grapheme-init : goal.loop-grapheme-init
loop-grapheme-init c =
    let taken = columns_taken c.args.row.now in
    let box = c.requires.some in
    let across = box.across in
    let fits : c.row_start-used.result + taken ≤ c.args.part.width =
    omega (arith, c.row_start-used.ensures, indent-fits c.args.alignment taken c.args.part.width c.requires.fits) in
    record {
      fits = fits;
      within = within-same c.args.part c.args.buf.now;
      paints = λ new others. subst (λ n. PaintsGraphemes (c.args.part.x + n) (c.args.part.y + c.args.k)
          c.args.row.now c.args.buf.now new) c.row_start-used.ensures others;
      ready = λ from.
          let start : c.args.part.x + c.row_start-used.result ≤ c.args.part.x + c.args.part.width = omega arith in
          let right = part-right c.args.part c.args.buf.now.area (c.args.part.x + c.row_start-used.result) 0 c.requires.some
          c.requires.inside (omega arith) in
          ready-row (c.args.part.x + c.row_start-used.result) (c.args.part.y + c.args.k) c.args.buf.now from
          (part-has_row c.args.part c.args.buf.now.area (c.args.part.y + c.args.k) c.requires.some c.requires.inside (omega arith)
          (omega arith)) (omega arith);
    }

pub loop-grapheme-preserved : goal.loop-grapheme-preserved
loop-grapheme-preserved c =
    let i = c.loop-grapheme.invariant in
    let columns = c.columns-columns.ensures ∙ ap grapheme_columns c.grapheme-item.is in
    let shown = ap₂ grapheme_in c.style.ensures c.symbol.ensures ∙ c.grapheme-item.is in
    let place : c.args.part.x + c.loop-grapheme.used + c.columns-columns.result ≡ c.args.part.x +
    (c.loop-grapheme.used + c.columns-columns.result) = omega arith in
    record {
      fits = grapheme-turn c.args.row.now c.loop-grapheme.grapheme-index c.loop-grapheme.used c.columns-columns.result
          c.args.part.width c.grapheme-item.result c.loop-grapheme-test.true columns i.fits;
      within = within-then c.args.part c.args.buf.now c.loop-grapheme.buf c.put_grapheme.new.buf i.within
          c.put_grapheme.ensures.within;
      paints = row-turn c.args.row.now c.loop-grapheme.grapheme-index (c.args.part.y + c.args.k) c.args.part.x
          c.loop-grapheme.used c.columns-columns.result _ c.grapheme-item.result c.args.buf.now c.loop-grapheme.buf
          c.put_grapheme.new.buf c.loop-grapheme-test.true columns i.paints
          (subst (λ g. PaintsGrapheme (c.args.part.x + c.loop-grapheme.used) (c.args.part.y + c.args.k) g c.loop-grapheme.buf
          c.put_grapheme.new.buf) shown c.in_ok-put_grapheme.ensures.ok);
      ready = λ from. subst (λ x. IsReadyAt x (c.args.part.y + c.args.k) c.put_grapheme.new.buf) place
          (c.in_ok-put_grapheme.ensures.ready (i.ready from));
    }
