use Rattle.std.proofs.Common.{◌∙◌, arith, sym, subst}
use Rattle.ratatui_core.specs.Buffer.{IsReadyFrom}
use Rattle.ratatui_core.proofs.{BufferLemmas.within-same, WidgetLemmas.within-then}
use Rattle.pager.specs.Places.{breaking, page_place}
use Rattle.pager.specs.Pages.{PaintsRowIn}
use Rattle.pager.proofs.PaintLemmas.{rows-none, rows-next}
use Rattle.text_places.proofs.WalkLemmas.{after-none, after-next}
use Rattle.pager.proofs.pager.Pager.paint_rows.Goals as goal

pub loop-k-init : goal.loop-k-init
loop-k-init c = record {
  finds = c.in_ok-finder.ensures;
  line = omega (arith, c.place-place.ensures.line);
  row = omega (arith, c.place-place.ensures.row);
  place = c.place-place.ensures.place ∙ sym (after-none (breaking c.args.self.now) (page_place c.args.self.now));
  within = within-same c.args.part c.args.buf.now;
  paints = rows-none c.args.self.now c.args.part c.args.buf.now;
  ready = λ from. subst (λ y. IsReadyFrom y c.args.buf.now) (omega arith) from;
}

pub loop-k-preserved : goal.loop-k-preserved
loop-k-preserved c =
    let i = c.loop-k.invariant in
    record {
      finds = c.paint_row.ensures.same ∙ i.finds;
      line = omega (arith, c.next_place-place.ensures.line, i.line);
      row = omega (arith, c.next_place-place.ensures.row);
      place = after-next (breaking c.args.self.now) c.loop-k.k (page_place c.args.self.now) c.loop-k.place
          c.next_place-place.result i.place c.next_place-place.ensures.place;
      within = within-then c.args.part c.args.buf.now c.loop-k.buf c.paint_row.new.buf i.within c.paint_row.ensures.within;
      paints = rows-next c.args.self.now c.args.part c.loop-k.k c.args.buf.now c.loop-k.buf c.paint_row.new.buf i.paints
          (subst (λ q. PaintsRowIn c.args.self.now.mode c.args.self.now c.args.part c.loop-k.k q c.loop-k.buf c.paint_row.new.buf)
          i.place c.in_ok-paint_row.ensures.ok);
      ready = λ from. subst (λ y. IsReadyFrom y c.paint_row.new.buf) (omega arith)
          (c.in_ok-paint_row.ensures.ready (i.ready from));
    }

pub returns-in_err-paint_row-clause-within : goal.returns-in_err-paint_row-clause-within
returns-in_err-paint_row-clause-within c = within-then c.args.part c.args.buf.now c.loop-k.buf c.paint_row.new.buf
    c.loop-k.invariant.within c.paint_row.ensures.within
