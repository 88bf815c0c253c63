use Rattle.std.proofs.Common.{drop}
use Rattle.ratatui_core.specs.{Buffer.BufferData, Widgets.ChangesWithin}
use Rattle.widget_canvas.specs.Canvases.{scale_of, RendersLabels}
use Rattle.widget_canvas.proofs.canvas.Canvas.render_labels.Given as goal

abbrev pub invariant-loop-label : goal.invariant-loop-label
invariant-loop-label l =
    let s = scale_of l.fn.self l.fn.inner in
    record {
      within : ChangesWithin l.fn.inner l.fn.buf l.buf;
      rest : (new : BufferData) → RendersLabels s l.fn.inner (drop l.label-index l.label-items) l.buf new
          → RendersLabels s l.fn.inner l.label-items l.fn.buf new;
    }
