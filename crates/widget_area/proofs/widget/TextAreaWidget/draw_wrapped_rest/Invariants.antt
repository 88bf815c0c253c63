use Rattle.std.proofs.Common.{◌≡◌, true, length}
use Rattle.unicode_segmentation.specs.{Grapheme.graphemes, Iter.graphemes_left}
use Rattle.rtui_drawing.proofs.Laws.{Continues}
use Rattle.widget_area.specs.TextAreas.{wrapped_graphemes_drawing}
use Rattle.widget_area.proofs.widget.TextAreaWidget.draw_wrapped_rest.Given as goal

-- what is left is to be drawn where it begins
abbrev pub invariant-walk : goal.invariant-walk
invariant-walk l = record {
  area : l.buf.area ≡ l.fn.buf.area;
  rest : Continues (wrapped_graphemes_drawing l.fn.self l.fn.plan l.fn.inner l.fn.begin l.at.column l.at.byte
      (graphemes_left l.left)) l.fn.inner
      (wrapped_graphemes_drawing l.fn.self l.fn.plan l.fn.inner l.fn.begin l.fn.from.column l.fn.from.byte
      (graphemes true l.fn.text)) l.fn.inner l.fn.buf l.buf;
}

abbrev pub decreases-walk : goal.decreases-walk
decreases-walk l = length (graphemes_left l.left)
