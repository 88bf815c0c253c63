use Rattle.std.proofs.Common.{◌≡◌, ◌+◌, ◌∷◌, ◌∙◌, All, false, true, ap, sym, subst, arith}
use Rattle.std.proofs.lemmas.List.Elements.{All-head, All-tail}
use Rattle.ratatui_core.specs.{Buffer.IsReadyAt, Buffer.IsShort, Text.GraphemeData, Text.grapheme_data}
use Rattle.ratatui_core.proofs.{BufferLemmas.within-same, WidgetLemmas.within-then, BufferLemmas.ready-row}
use Rattle.widget_boxes.proofs.{BoxLemmas.inside-within, PaintLemmas.part-has_row, PaintLemmas.part-right}
use Rattle.widget_paragraph.specs.{Inner.left_of_cut, Reflow.columns_taken, Paragraphs.PaintsGraphemes}
use Rattle.widget_paragraph.proofs.{ReflowLemmas.columns-next, RowsLemmas.row-next}
use Rattle.widget_paragraph.proofs.paragraph.render_cut_row.Goals as goal

pub put_grapheme-requires-clause-inside : goal.put_grapheme-requires-clause-inside
put_grapheme-requires-clause-inside c =
    inside-within c.args.part c.args.buf.now c.loop-grapheme.buf c.requires.inside c.loop-grapheme.invariant.within

pub loop-grapheme-init : goal.loop-grapheme-init
loop-grapheme-init c = record {
  cut = c.requires.cut;
  fits = c.requires.fits;
  within = within-same c.args.part c.args.buf.now;
  paints = λ new others. others;
  ready = λ from.
      let box = c.requires.some in
      let across = box.across in
      let fits = c.requires.fits in
      let right = part-right c.args.part c.args.buf.now.area (c.args.part.x + c.args.start) 0 c.requires.some c.requires.inside
      (omega arith) in
      ready-row (c.args.part.x + c.args.start) (c.args.part.y + c.args.k) c.args.buf.now from
      (part-has_row c.args.part c.args.buf.now.area (c.args.part.y + c.args.k) c.requires.some c.requires.inside (omega arith)
      (omega arith)) (omega arith);
  short = λ all. all;
}

pub loop-grapheme-preserved : goal.loop-grapheme-preserved
loop-grapheme-preserved c =
    let i = c.loop-grapheme.invariant in
    let g = grapheme_data c.in-Some.grapheme in
    let rest = left_of_cut c.next.new.self in
    let left : left_of_cut c.loop-grapheme.cut ≡ g ∷ rest = rw c.in-Some.is at c.next.ensures.left in
    let taken : columns_taken (left_of_cut c.loop-grapheme.cut) ≡ c.cell_width-columns.result + columns_taken rest =
    ap columns_taken left ∙ columns-next g rest ∙ ap (λ n. n + columns_taken rest) (sym c.cell_width-columns.ensures) in
    let fits = i.fits in
    let place : c.args.part.x + c.loop-grapheme.used + c.cell_width-columns.result ≡ c.args.part.x +
    (c.loop-grapheme.used + c.cell_width-columns.result) = omega arith in
    record {
      cut = c.next.ensures.cut;
      fits = omega (arith, taken);
      within = within-then c.args.part c.args.buf.now c.loop-grapheme.buf c.put_grapheme.new.buf i.within
          c.put_grapheme.ensures.within;
      paints = λ new others. row-next (c.args.part.y + c.args.k) (c.args.part.x + c.loop-grapheme.used)
          (c.args.part.x + c.args.start) g _ rest _ c.args.buf.now c.loop-grapheme.buf c.put_grapheme.new.buf left i.paints
          c.in_ok-put_grapheme.ensures.ok new
          (subst (λ x. PaintsGraphemes x (c.args.part.y + c.args.k) rest c.put_grapheme.new.buf new)
          (sym place ∙ ap (λ n. c.args.part.x + c.loop-grapheme.used + n) c.cell_width-columns.ensures) others);
      ready = λ from. subst (λ x. IsReadyAt x (c.args.part.y + c.args.k) c.put_grapheme.new.buf) place
          (c.in_ok-put_grapheme.ensures.ready (i.ready from));
      short = λ all. All-tail (λ (d : GraphemeData). IsShort d.symbol) g rest
          (subst (All (λ (d : GraphemeData). IsShort d.symbol)) left (i.short all));
    }

pub returns-in_err-put_grapheme-clause-short : goal.returns-in_err-put_grapheme-clause-short
returns-in_err-put_grapheme-clause-short c = λ all.
    let g = grapheme_data c.in-Some.grapheme in
    let rest = left_of_cut c.next.new.self in
    let left : left_of_cut c.loop-grapheme.cut ≡ g ∷ rest = rw c.in-Some.is at c.next.ensures.left in
    let no : false ≡ true = c.in_err-put_grapheme.ensures.short
    (All-head (λ (d : GraphemeData). IsShort d.symbol) g rest
    (subst (All (λ (d : GraphemeData). IsShort d.symbol)) left (c.loop-grapheme.invariant.short all))) in
    absurd (cc)

pub returns-in_err-put_grapheme-clause-within : goal.returns-in_err-put_grapheme-clause-within
returns-in_err-put_grapheme-clause-within c =
    within-then c.args.part c.args.buf.now c.loop-grapheme.buf c.put_grapheme.new.buf c.loop-grapheme.invariant.within
    c.put_grapheme.ensures.within
