use Rattle.std.proofs.Common.{arith, subst}
use Rattle.ratatui_core.specs.Buffer.{IsReadyFrom}
use Rattle.ratatui_core.proofs.{BufferLemmas.within-same, WidgetLemmas.within-then}
use Rattle.files.proofs.PaintLemmas.{rows-none, rows-next}
use Rattle.files.proofs.browser.Browser.paint_rows.Goals as goal

pub loop-k-init : goal.loop-k-init
loop-k-init c = record {
  within = within-same c.args.part c.args.buf.now;
  paints = rows-none c.args.self.now c.args.part c.args.buf.now;
  ready = λ from. subst (λ y. IsReadyFrom y c.args.buf.now) (omega arith) from;
}

pub loop-k-preserved : goal.loop-k-preserved
loop-k-preserved c =
    let i = c.loop-k.invariant in
    record {
      within = within-then c.args.part c.args.buf.now c.loop-k.buf c.paint_row.new.buf i.within c.paint_row.ensures.within;
      paints = rows-next c.args.self.now c.args.part c.loop-k.k c.args.buf.now c.loop-k.buf c.paint_row.new.buf i.paints
          c.in_ok-paint_row.ensures.ok;
      ready = λ from. subst (λ y. IsReadyFrom y c.paint_row.new.buf) (omega arith)
          (c.in_ok-paint_row.ensures.ready (i.ready from));
    }

pub returns-in_err-paint_row-clause-within : goal.returns-in_err-paint_row-clause-within
returns-in_err-paint_row-clause-within c = within-then c.args.part c.args.buf.now c.loop-k.buf c.paint_row.new.buf
    c.loop-k.invariant.within c.paint_row.ensures.within
