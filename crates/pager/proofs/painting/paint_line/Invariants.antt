use Rattle.std.proofs.Common.{◌≡◌, ◌+◌, ◌-◌, min, length}
use Rattle.unicode_segmentation.specs.Iter.{graphemes_left}
use Rattle.ratatui_core.specs.{Widgets.ChangesWithin, Buffer.IsReadyAt}
use Rattle.std.specs.List.{concat}
use Rattle.pager.specs.Inner.{IsKnownAhead}
use Rattle.pager.proofs.PaintLemmas.{FinishesLine, reach}
use Rattle.pager.proofs.painting.paint_line.Given as goal

abbrev pub invariant-loop-column : goal.invariant-loop-column
invariant-loop-column l = record {
  finds : l.finder ≡ l.fn.finder;
  ahead : IsKnownAhead l.fn.finder l.fn.line (length l.fn.line - length (concat (graphemes_left l.graphemes))) l.ahead;
  within : ChangesWithin l.fn.part l.fn.buf l.buf;
  paints : FinishesLine l.fn.x l.fn.y l.fn.view l.fn.finder l.fn.runs (reach l.fn.line l.column l.marked l.runs)
      (graphemes_left l.graphemes) l.fn.line l.fn.buf l.buf;
  ready : IsReadyAt l.fn.x l.fn.y l.fn.buf → IsReadyAt (l.fn.x + min (l.column - l.fn.view.left) l.fn.view.width) l.fn.y l.buf;
}

abbrev pub decreases-loop-column : goal.decreases-loop-column
decreases-loop-column l = length (graphemes_left l.graphemes)
