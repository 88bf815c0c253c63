use Rattle.std.specs.Cmp.Lexicographic.{pointwise}
use Rattle.rtui_geometry.specs.contracts.rect.RectPartialEq.TheImpl as rect_equality
use Rattle.rtui_cell.specs.{Cell.empty_cell, Equality.is_same}
use Rattle.rtui_buffer.proofs.EqualityLemmas.{pointwise-count, pointwise-at, pointwise-from, same_rect, rect_itself}
use Rattle.std.proofs.lemmas.Bool.{and_parts, and_from}
use Rattle.rtui_buffer.proofs.laws.equality_is_by_cells.Goals as goal

pub returns : goal.returns
unfolding is_same
returns c s t =
    let law = c.equality_is_by_looks.ensures in
    let area = rect_equality.eq-value.it s.area t.area in
    let cells = pointwise is_same s.cells t.cells in (
      λ e. record {
        area = same_rect s.area t.area (and_parts area cells e).0;
        count = pointwise-count is_same empty_cell s.cells t.cells (and_parts area cells e).1;
        cells = λ k lt. (law _ _).0 (pointwise-at is_same empty_cell s.cells t.cells (and_parts area cells e).1 k lt);
      },
      λ h. and_from area cells (rect_itself s.area t.area h.area)
          (pointwise-from is_same empty_cell s.cells t.cells h.count (λ k lt. (law _ _).1 (h.cells k lt))),
    )
