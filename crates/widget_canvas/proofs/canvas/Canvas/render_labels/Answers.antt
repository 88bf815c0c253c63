use Rattle.ratatui_core.proofs.{WidgetLemmas.within-then}
use Rattle.ratatui_core.proofs.WidgetLemmas.{element-next}
use Rattle.widget_canvas.proofs.canvas.Canvas.render_labels.Goals as goal

pub loop-label-preserved : goal.loop-label-preserved
loop-label-preserved c =
    let item = element-next c.args.self.now.labels.now c.loop-label.label-index c.label-item.result c.loop-label-test.true
    c.label-item.is in
    record {
      within = within-then c.args.inner c.args.buf.now c.loop-label.buf c.render.new.buf c.loop-label.invariant.within
          c.in_ok-render.ensures.within;
      rest = λ new others. c.loop-label.invariant.rest new (rw item (record {
        between = c.render.new.buf;
        first = rw c.scale-scale.ensures at c.in_ok-render.ensures.ok;
        second = others;
      }));
    }

pub returns-in_err-render-clause-within : goal.returns-in_err-render-clause-within
returns-in_err-render-clause-within c =
    within-then c.args.inner c.args.buf.now c.loop-label.buf c.render.new.buf c.loop-label.invariant.within
    c.in_err-render.ensures.within
