use Rattle.std.proofs.Common.{◌≡◌, ◌≤◌, ◌+◌, ◌^◌, ◌-◌}
use Rattle.ratatui_core.specs.{Widgets.ChangesWithin, Buffer.IsReadyFrom}
use Rattle.text_places.specs.Places.{places_after}
use Rattle.pager.specs.Places.{breaking, page_place}
use Rattle.pager.specs.Pages.{PaintsPageRows}
use Rattle.pager.proofs.pager.Pager.paint_rows.Given as goal

abbrev pub invariant-loop-k : goal.invariant-loop-k
invariant-loop-k l = record {
  finds : l.finder ≡ l.fn.self.sought;
  line : l.place.line ≤ 2 ^ 32 - 1 + l.k;
  row : l.place.row ≤ 2 ^ 32 - 1;
  place : l.place ≡ places_after (breaking l.fn.self) l.k (page_place l.fn.self);
  within : ChangesWithin l.fn.part l.fn.buf l.buf;
  paints : PaintsPageRows l.fn.self l.fn.part l.k l.fn.buf l.buf;
  ready : IsReadyFrom l.fn.part.y l.fn.buf → IsReadyFrom (l.fn.part.y + l.k) l.buf;
}
